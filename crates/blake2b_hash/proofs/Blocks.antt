-- Words of bytes and bytes of words: what stands at each place. Assumes nothing.
use Rattle.std.proofs.Common.{◌≡◌, ℕ, zero, suc, ◌+◌, ◌*◌, ◌/◌, ◌%◌, ◌^◌, ◌<◌, ◌≤◌, List, [], ◌∷◌, ◌++◌, length, take, drop, sym, refl, ap, ◌∙◌, ap₂, mul_assoc, suc-add, zero-add, div-one, arith, length-drop, drop-cons, drop-drop, get_or-append-add, pow-add}
use native.Mathlib.Nat.{div-div-eq-div-mul}
use lib.ListN.{get_or-append}
use Rattle.std.specs.Int.{w64, from_le_bytes}
use Rattle.blake2b.proofs.ElementsLaws.{whole}
use Rattle.std.proofs.Common.{add-zero, length-take, get_or-take, get_or-drop}
use Rattle.blake2b.specs.Blake2b.{◌!◌, word, bytes, words, unwords}
use Rattle.blake2b.proofs.CheckLaws.{length-bytes}

-- a word of one byte
pub word-one : (s : List ℕ) (at : ℕ) → at < length s → word (take 1 (drop at s)) ≡ s ! at
unfolding word
word-one s at l = rw (drop-cons s at 0 l) (omega arith)

carried : (b u x p q : ℕ) → u ≡ x + p → q ≡ p * 2 ^ 8 → b + u * 2 ^ 8 ≡ b + x * 2 ^ 8 + q
carried b u x p q eu eq = omega arith

more : (n k : ℕ) (s : List ℕ) → n ≤ length s → word (take (n + k) s) ≡ word (take n s) + word (take k (drop n s)) * 2 ^ (8 * n)
unfolding word
more zero k s l = rw zero-add (omega arith)
more (suc n) k [] l = absurd (omega arith)
more (suc n) k (b ∷ s) l =
    let e : 8 * suc n ≡ 8 * n + 8 = omega arith in
    rw suc-add (carried b _ (word (take n s)) (word (take k (drop n s)) * 2 ^ (8 * n)) _ (more n k s (omega arith))
    (ap (λ (j : ℕ). word (take k (drop n s)) * 2 ^ j) e ∙ ap (word (take k (drop n s)) *◌) (pow-add 2 (8 * n) 8)
    ∙ sym (mul_assoc (word (take k (drop n s))) (2 ^ (8 * n)) (2 ^ 8))))

-- n bytes and the n bytes after them
pub word-twice : (n : ℕ) (s : List ℕ) (at a b : ℕ) → at + n ≤ length s → a ≡ word (take n (drop at s)) → b ≡ word (take n (drop (at + n) s))
    → a + b * 2 ^ (8 * n) ≡ word (take (n + n) (drop at s))
word-twice n s at a b l ea eb =
    ap₂ (λ (x y : ℕ). x + y * 2 ^ (8 * n)) ea (eb ∙ ap (λ (u : List ℕ). word (take n u)) (sym (drop-drop n at s)))
    ∙ sym (more n n (drop at s) (simp length-drop (omega arith)))

le_word : (a b c d e f g h : ℕ)
    → from_le_bytes w64 (a ∷ b ∷ c ∷ d ∷ e ∷ f ∷ g ∷ h ∷ []) ≡ word (a ∷ b ∷ c ∷ d ∷ e ∷ f ∷ g ∷ h ∷ [])
unfolding word
le_word a b c d e f g h = omega arith

-- eight bytes as a word
pub word-eight : (s : List ℕ) (at : ℕ) → at + 8 ≤ length s
    → from_le_bytes w64 (s ! at ∷ s ! (at + 1) ∷ s ! (at + 2) ∷ s ! (at + 3) ∷ s ! (at + 4) ∷ s ! (at + 5) ∷ s ! (at + 6) ∷ s ! (at + 7) ∷ [])
    ≡ word (take 8 (drop at s))
word-eight s at l =
    let n : length (take 8 (drop at s)) ≡ 8 = simp (length-take, length-drop) (omega arith) in
    let same : (k : ℕ) → k < 8 → take 8 (drop at s) ! k ≡ s ! (at + k) = λ k h. get_or-take 8 (drop at s) k 0 h ∙ get_or-drop at s k 0 in
    le_word _ _ _ _ _ _ _ _
    ∙ ap word (sym (whole (take 8 (drop at s)) 8 n
    ∙ rw (same 0 (omega arith), same 1 (omega arith), same 2 (omega arith), same 3 (omega arith), same 4 (omega arith), same 5 (omega arith), same 6 (omega arith), same 7 (omega arith), add-zero at)))

pub length-words : (n : ℕ) (s : List ℕ) → length (words n s) ≡ n
unfolding words
length-words zero s = refl
length-words (suc n) s = ap suc (length-words n (drop 8 s))

nth : (n : ℕ) (s : List ℕ) (i : ℕ) → i < n → words n s ! i ≡ word (take 8 (drop (i * 8) s))
unfolding words
nth zero s i l = absurd (omega arith)
nth (suc n) s zero l = refl
nth (suc n) s (suc i) l =
    let e : 8 + i * 8 ≡ suc i * 8 = omega arith in
    nth n (drop 8 s) i (omega arith) ∙ ap (λ (u : List ℕ). word (take 8 u)) (drop-drop (i * 8) 8 s ∙ ap (λ (k : ℕ). drop k s) e)

-- word i of the block at a place
pub words-at : (n : ℕ) (s : List ℕ) (at i : ℕ) → i < n → words n (drop at s) ! i ≡ word (take 8 (drop (at + i * 8) s))
words-at n s at i l = nth n (drop at s) i l ∙ ap (λ (u : List ℕ). word (take 8 u)) (drop-drop (i * 8) at s)

-- byte k of a word
pub bytes_at_lem : (n x k : ℕ) → k < n → bytes n x ! k ≡ x / 2 ^ (8 * k) % 2 ^ 8
unfolding bytes
bytes_at_lem zero x k l = absurd (omega arith)
bytes_at_lem (suc n) x zero l = ap (λ (y : ℕ). y % 2 ^ 8) (sym (div-one x))
bytes_at_lem (suc n) x (suc k) l =
    let e : 8 + 8 * k ≡ 8 * suc k = omega arith in
    bytes_at_lem n (x / 2 ^ 8) k (omega arith)
    ∙ ap (λ (y : ℕ). y % 2 ^ 8) (div-div-eq-div-mul x (2 ^ 8) (2 ^ (8 * k)) ∙ ap (x /◌) (sym (pow-add 2 8 (8 * k)) ∙ ap (2 ^◌) e))

-- byte r of word q
pub unwords-at : (h : List ℕ) (q r : ℕ) → q < length h → r < 8 → unwords h ! (q * 8 + r) ≡ bytes 8 (h ! q) ! r
unfolding unwords
unwords-at [] q r l m = absurd (omega arith)
unwords-at (x ∷ h) zero r l m = rw zero-add (get_or-append (bytes 8 x) (unwords h) 0 r (rw (length-bytes 8 x) m))
unwords-at (x ∷ h) (suc q) r l m =
    let e : suc q * 8 + r ≡ length (bytes 8 x) + (q * 8 + r) = omega (arith, length-bytes 8 x) in
    ap (λ (k : ℕ). (bytes 8 x ++ unwords h) ! k) e ∙ get_or-append-add (bytes 8 x) (unwords h) (q * 8 + r) 0
    ∙ unwords-at h q r (omega arith) m
