-- The schedule as it is kept: at row i, column j stands SIGMA[i][j], which is the number of a message word. Assumes nothing.
use Rattle.std.proofs.Common.{◌≡◌, ℕ, ◌+◌, ◌*◌, ◌/◌, ◌%◌, ◌<◌, Bool, eqb, ltb, List, [], get_or, ap, ◌∙◌, ap₂, arith, eqb→eq, ltb→lt}
use Rattle.blake2b.specs.Blake2b.{SIGMA, ◌!◌}
use Rattle.blake2b_compress.specs.Parts.{joined, kept}
use Rattle.blake2b_compress.proofs.Table.{at}

small : ℕ → ℕ → Bool
small k x = ltb x 16

right : ℕ → ℕ → Bool
right k x = eqb x (get_or SIGMA (k / 16) [] ! (k % 16))

kept_right : (k : ℕ) → k < 160 → kept ! k ≡ get_or SIGMA (k / 16) [] ! (k % 16)
unfolding right joined SIGMA
kept_right k h = eqb→eq _ _ (at right kept tt k h)

pub below : (t : List ℕ) (i j : ℕ) → t ≡ kept → j < 16 → t ! (i % 10 * 16 + j) < 16
unfolding small joined SIGMA
below t i j e h = rw e (ltb→lt _ _ (at small kept tt (i % 10 * 16 + j) (omega arith)))

pub entry : (t : List ℕ) (i j : ℕ) → t ≡ kept → j < 16 → t ! (i % 10 * 16 + j) ≡ get_or SIGMA (i % 10) [] ! j
entry t i j e h =
    let row : (i % 10 * 16 + j) / 16 ≡ i % 10 = omega arith in
    let column : (i % 10 * 16 + j) % 16 ≡ j = omega arith in
    ap (λ (u : List ℕ). u ! (i % 10 * 16 + j)) e ∙ kept_right (i % 10 * 16 + j) (omega arith)
    ∙ ap₂ (λ (a b : ℕ). get_or SIGMA a [] ! b) row column
