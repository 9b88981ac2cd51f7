-- What `io::decimal` makes of a number is the number in decimal, of at most 20 digits.
use Rattle.std.specs.Prelude.{ℕ, zero, suc, ◌+◌, ◌-◌, ◌/◌, ◌%◌, ◌^◌, ◌≤◌, ◌<◌, Bool, true, false, cond, List, [], ◌∷◌, ◌++◌, ◌≡◌, ltb, length, take}
use Rattle.std.proofs.Common.{pow-suc, arith, zero-lt-suc, ⊎_elim, ap, ◌∙◌, lt-ltb, le-ltb, length-append}
use Rattle.std.proofs.Math.Nat.{one-le-pow, pow-le-pow_right}
use Rattle.wire.specs.Numbers.{lt-or_ge}
use Rattle.io.specs.Digits.{last_digits, hex_digit_ascii, IsDigitCount}
use Rattle.wire_text_write.specs.Text.{decimal_in, decimal}

glyph_digit : (d : ℕ) → d < 10 → hex_digit_ascii d ≡ 48 + d
glyph_digit d h = rw (lt-ltb d 10 h)

-- k digits are enough and no fewer are
digits_decimal : (f k n : ℕ) → k < suc f → n < 10 ^ suc k → (0 < k → 10 ^ k ≤ n) → last_digits 10 (suc k) n ≡ decimal_in (suc f) n
unfolding decimal_in
digits_decimal f zero n h small fewest =
    let s : n < 10 = omega (arith, small) in
    let e : n % 10 ≡ n = omega arith in
    rw (lt-ltb n 10 s, e, glyph_digit n s)
digits_decimal zero (suc k) n h small fewest = absurd (omega arith)
digits_decimal (suc f) (suc k) n h small fewest =
    let big : 10 ^ suc k ≤ n = fewest (omega arith) in
    let ten : 10 ≤ n = omega (arith, pow-suc 10 k, one-le-pow k 10 (zero-lt-suc 9)) in
    let last : hex_digit_ascii (n % 10) ≡ 48 + n % 10 = glyph_digit (n % 10) (omega arith) in
    let rest : last_digits 10 (suc k) (n / 10) ≡ decimal_in (suc f) (n / 10) =
    digits_decimal f k (n / 10) (omega arith) (omega (arith, pow-suc 10 (suc k))) (λ z. omega (arith, pow-suc 10 k)) in
    rw (le-ltb n 10 ten, last, rest)

fewest_decimal : (n k : ℕ) → IsDigitCount 10 1 n k → n < 2 ^ 64 → (last_digits 10 k n ≡ decimal n) × (k ≤ 20)
unfolding decimal
fewest_decimal n zero h small = absurd (omega (arith, h.0))
fewest_decimal n (suc k) h small = (digits_decimal 19 k n (few k h) h.1 (λ z. let e : suc k - 1 ≡ k = omega arith in rw e at (h.2 (omega arith))), few k h)
  where
    few : (k : ℕ) → IsDigitCount 10 1 n (suc k) → k < 20
    few k h =
        ⊎_elim
        (λ (l : k < 20). l)
        (λ (l : 20 ≤ k). let m : 10 ^ 20 ≤ 10 ^ k = pow-le-pow_right (zero-lt-suc 9) l in let e : suc k - 1 ≡ k = omega arith in absurd (omega (arith, rw e at (h.2 (omega arith)))))
        (lt-or_ge k 20)

-- what `io::decimal` says of the digits ds that it left
module _ (n k : ℕ) (ds : List ℕ) (fewest : IsDigitCount 10 1 n k) (small : n < 2 ^ 64) (spelled : take k ds ≡ last_digits 10 k n) where
  pub decimal_spelled : take k ds ≡ decimal n
  decimal_spelled = spelled ∙ (fewest_decimal n k fewest small).0

  pub decimal-length : k ≡ length (take k ds) → (k ≡ length (decimal n)) × (k ≤ 20)
  decimal-length counted = (counted ∙ ap length decimal_spelled, (fewest_decimal n k fewest small).1)

pub ruleset decimals = (decimal_spelled, decimal-length)

-- ---- how many digits there are

digits_within : (f n : ℕ) → length (decimal_in f n) ≤ f
unfolding decimal_in
digits_within zero n = omega arith
digits_within (suc f) n = go (ltb n 10) (digits_within f (n / 10))
  where
    go : (b : Bool) → length (decimal_in f (n / 10)) ≤ f → length (cond b ((48 + n) ∷ []) (decimal_in f (n / 10) ++ ((48 + n % 10) ∷ []))) ≤ suc f
    go true h = omega arith
    go false h = omega (arith, length-append (decimal_in f (n / 10)) ((48 + n % 10) ∷ []), h)

pub length-decimal : (n : ℕ) → length (decimal n) ≤ 20
unfolding decimal
length-decimal n = digits_within 20 n
