-- A list is the list of its elements, as many as it is long. Assumes nothing.
use Rattle.std.specs.Prelude.{◌≡◌, List, [], ◌∷◌, ℕ, zero, suc, ◌+◌, length, get_or, drop}
use Rattle.std.proofs.Common.{ap, ◌∙◌, arith, drop_of_length-le, drop-cons}

-- n elements, from place i on
abbrev pub elements : List ℕ → ℕ → ℕ → List ℕ
elements l i zero = []
elements l i (suc n) = get_or l i 0 ∷ elements l (suc i) n

from : (l : List ℕ) (i n : ℕ) → length l ≡ i + n → drop i l ≡ elements l i n
from l i zero e = drop_of_length-le l {i = i} (omega arith)
from l i (suc n) e = drop-cons l i 0 (omega arith) ∙ ap (λ (u : List ℕ). get_or l i 0 ∷ u) (from l (suc i) n (omega arith))

pub whole : (l : List ℕ) (n : ℕ) → length l ≡ n → l ≡ elements l 0 n
whole l n e = from l 0 n (omega arith)
