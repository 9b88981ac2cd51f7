-- What holds of each number of a range.
-- Only for laws, proofs and private functions: no public contract and no theorem cites what follows.
use Rattle.std.specs.Prelude.{ℕ, ◌≤◌, ◌<◌}

-- P of each number from a on and below b
pub record UpTo (P : ℕ → Type 0) (a b : ℕ) : Type 0 where
  pub each : (i : ℕ) → a ≤ i → i < b → P i
