-- Bytes up to 0x7F are UTF-8.
use Rattle.std.specs.Prelude.{Some, ℕ, suc, ◌+◌, ◌-◌, ◌≤◌, ◌<◌, ◌⊎◌, length, take, drop, get_or, true, List, [], ◌∷◌, ◌≡◌, refl}
use Rattle.std.specs.Str.{IsAscii}
use Rattle.std.proofs.Common.{arith, inl, inr, ⊎_elim, le-leb}
use Rattle.std.proofs.lemmas.List.{get_or-take, get_or-drop, get_or_past}
use Rattle.wire.specs.Numbers.{lt-or_ge}
use Rattle.wire.specs.UpTo.{UpTo}
use Rattle.wire.proofs.UpToLaws.{upto_next}
use Rattle.vlq_utf8.specs.Utf8.{lead_rows, lead_in, lead_of, utf8_from, utf8}

pub lead_ascii : (b : ℕ) → b ≤ 0x7f → lead_of b ≡ Some (record { followers = 0; low = 0x80; high = 0xbf })
unfolding lead_of lead_in lead_rows
lead_ascii b h = rw (le-leb 0 b (omega arith), le-leb b 0x7f h)

-- a byte more: n is 0 only where m was, and the byte is not above 0x7F
pub high-next : (s : List ℕ) (a k d m n : ℕ) → (m ≡ 0 → UpTo (λ i. get_or s i 0 ≤ 0x7f) a k) → (n ≡ 0 → (m ≡ 0) × (get_or s k 0 ≤ 0x7f)) → d ≡ k + 1
    → n ≡ 0 → UpTo (λ i. get_or s i 0 ≤ 0x7f) a d
high-next s a k d m n u h e z = upto_next (λ i. get_or s i 0 ≤ 0x7f) a k d (u (h z).0) (h z).1 e

-- two ranges with no gap between them
pub ascii_join : (s : List ℕ) (a b c d : ℕ) → UpTo (λ i. get_or s i 0 ≤ 0x7f) a b → UpTo (λ i. get_or s i 0 ≤ 0x7f) c d → c ≤ b
    → UpTo (λ i. get_or s i 0 ≤ 0x7f) a d
ascii_join s a b c d u v h =
    record {
      each = λ (i : ℕ) (g : a ≤ i) (l : i < d).
          ⊎_elim (λ (m : i < b). u.each i g m) (λ (m : b ≤ i). v.each i (omega arith) l) (lt-or_ge i b);
    }

-- two parts with no gap between them, up to the end
pub ascii_joined : (s : List ℕ) (a b n : ℕ) → IsAscii (take a s) → IsAscii (take n (drop b s)) → b ≤ a → length s ≤ b + n → IsAscii s
ascii_joined s a b n p q h l i = side (lt-or_ge i a) (lt-or_ge (i - b) n)
  where
    side : (i < a) ⊎ (a ≤ i) → (i - b < n) ⊎ (n ≤ i - b) → get_or s i 0 < 0x80
    side (inl m) r = rw (← get_or-take a s i 0 m) (p i)
    side (inr m) (inl r) = let e : b + (i - b) ≡ i = omega arith in rw (get_or-take n (drop b s) (i - b) 0 r, get_or-drop b s (i - b) 0, e) at (q (i - b))
    side (inr m) (inr r) = rw (get_or_past s i 0 (omega arith)) (omega arith)

ascii-from : (bs : List ℕ) (low high : ℕ) → IsAscii bs → utf8_from bs 0 low high ≡ true
unfolding utf8_from
ascii-from [] low high h = refl
ascii-from (b ∷ bs) low high h = rw (lead_ascii b (omega (arith, h 0))) (ascii-from bs 0x80 0xbf (λ (i : ℕ). h (suc i)))

pub ascii-utf8 : (bs : List ℕ) → IsAscii bs → utf8 bs ≡ true
unfolding utf8
ascii-utf8 bs h = ascii-from bs 0x80 0xbf h
