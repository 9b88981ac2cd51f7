-- Laws of what holds of each number of a range, one number after the other.
use Rattle.std.specs.Prelude.{ℕ, ◌+◌, ◌≤◌, ◌<◌, ◌≡◌}
use Rattle.std.proofs.Common.{arith, ⊎_elim}
use Rattle.wire.specs.Numbers.{lt-or_ge}
use Rattle.wire.specs.UpTo.{UpTo}

module _ (P : ℕ → Type 0) where
  pub upto_start : (a b : ℕ) → b ≤ a → UpTo P a b
  upto_start a b h = record { each = λ (i : ℕ) (g : a ≤ i) (l : i < b). absurd (omega arith) }

  pub upto_next : (a b d : ℕ) → UpTo P a b → P b → d ≡ b + 1 → UpTo P a d
  upto_next a b d u p e =
      record {
        each = λ (i : ℕ) (g : a ≤ i) (l : i < d).
            ⊎_elim (λ (m : i < b). u.each i g m) (λ (m : b ≤ i). let q : i ≡ b = omega arith in rw q p) (lt-or_ge i b);
      }

  pub upto_end : (a b d : ℕ) → UpTo P a b → d ≤ b → UpTo P a d
  upto_end a b d u e = record { each = λ (i : ℕ) (g : a ≤ i) (l : i < d). u.each i g (omega arith) }
