-- The check of any bytes has four bytes: BLAKE2b's state keeps its eight words, which are 64 bytes.
use Rattle.std.specs.Prelude.{ℕ, zero, suc, ◌+◌, ◌-◌, ◌*◌, ◌≤◌, Bool, true, false, List, [], ◌∷◌, ◌≡◌, refl, length}
use Rattle.std.proofs.Common.{arith, ap, ◌∙◌, length-set, length-append, length-take-le}
use Rattle.blake2b.specs.Blake2b.{for, bytes, unwords, IV, F, h0, dd, d, bb, blake2b, check}

-- a loop whose turns keep the length keeps it
length-for : (n : ℕ) (f : ℕ → List ℕ → List ℕ) → ((i : ℕ) (l : List ℕ) → length (f i l) ≡ length l) → (l : List ℕ) → length (for n f l) ≡ length l
unfolding for
length-for zero f keeps l = refl
length-for (suc n) f keeps l = keeps n (for n f l) ∙ length-for n f keeps l

length-F : (h m : List ℕ) (t : ℕ) (f : Bool) → length (F h m t f) ≡ length h
unfolding F
length-F h m t f = length-for 8 _ (λ i l. length-set l i _) h

length-h0 : (nn : ℕ) → length (h0 nn) ≡ 8
unfolding h0 IV
length-h0 nn = simp length-set

pub length-bytes : (n x : ℕ) → length (bytes n x) ≡ n
unfolding bytes
length-bytes zero x = refl
length-bytes (suc n) x = ap suc (length-bytes n _)

pub length-unwords : (l : List ℕ) → length (unwords l) ≡ 8 * length l
unfolding unwords
length-unwords [] = refl
length-unwords (x ∷ l) = omega (arith, length-append (bytes 8 x) (unwords l), length-bytes 8 x, length-unwords l)

-- nn bytes of output, of at most 64
length-blake2b : (nn : ℕ) (input : List ℕ) → nn ≤ 64 → length (blake2b nn input) ≡ nn
unfolding blake2b
length-blake2b nn input small =
    let h : List ℕ = for (dd (length input) - 1) (λ i h. F h (d input i) ((i + 1) * bb) false) (h0 nn) in
    let before : length h ≡ 8 = length-for _ _ (λ i l. length-F l _ _ _) (h0 nn) ∙ length-h0 nn in
    let last : List ℕ = F h (d input (dd (length input) - 1)) (length input) true in
    let words : length last ≡ 8 = length-F h _ _ _ ∙ before in
    length-take-le nn (unwords last) (omega (arith, length-unwords last))

pub length-check : (s : List ℕ) → length (check s) ≡ 4
length-check s = length-take-le 4 (blake2b 32 s) (omega (arith, length-blake2b 32 s (omega arith)))
