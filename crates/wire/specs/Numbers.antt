-- Of two numbers the first is below the second, or at or above it; a test on a sum, asked as one on a difference.
-- Only for laws, proofs and private functions: no public contract and no theorem cites what follows.
use Rattle.std.specs.Prelude.{ℕ, ◌+◌, ◌-◌, ◌≤◌, ◌<◌, ◌⊎◌, ◌≡◌, leb}
use Rattle.std.proofs.Math.Decide.{dec_lt}
use Rattle.std.proofs.Common.{arith, inl, inr, sym, ◌∙◌, le-leb}
use Rattle.std.proofs.lemmas.Bool.{lt-leb}

pub lt-or_ge : (a b : ℕ) → (a < b) ⊎ (b ≤ a)
lt-or_ge a b = side (dec_lt a b)
  where
    side : Dec (a < b) → (a < b) ⊎ (b ≤ a)
    side (yes h) = inl h
    side (no h) = inr (omega arith)

pub sum-test : (from n size : ℕ) → from ≤ size → leb n (size - from) ≡ leb (from + n) size
sum-test from n size h = side (lt-or_ge (size - from) n)
  where
    side : (size - from < n) ⊎ (n ≤ size - from) → leb n (size - from) ≡ leb (from + n) size
    side (inl g) = lt-leb n (size - from) g ∙ sym (lt-leb (from + n) size (omega arith))
    side (inr g) = le-leb n (size - from) g ∙ sym (le-leb (from + n) size (omega arith))
