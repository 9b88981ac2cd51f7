-- The numbers of w bits, signed and unsigned, for any w.
-- Only for laws, proofs and private functions: no public contract and no theorem cites what follows.
use Rattle.std.specs.Prelude.{ℕ, ◌-◌, ◌^◌, ◌<◌, ℤ, pos, neg_ℤ, ◌≤ℤ◌, ◌<ℤ◌}

-- two's complement: from -2^(w-1) to 2^(w-1) - 1
pub record Signed (w : ℕ) (n : ℤ) : Type 0 where
  pub lowest : neg_ℤ (pos (2 ^ (w - 1))) ≤ℤ n
  pub highest : n <ℤ pos (2 ^ (w - 1))

pub record Unsigned (w m : ℕ) : Type 0 where
  pub highest : m < 2 ^ w
