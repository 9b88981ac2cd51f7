-- Zigzag by document 01, "VLQ, zigzag, short strings", over all integers: no width plays a part.
use Rattle.std.specs.Prelude.{ℕ, ◌+◌, ◌-◌, ◌*◌, ◌/◌, ◌%◌, cond, eqb, ℤ, pos, neg_ℤ, nat_abs}
use Rattle.std.specs.Int.Signed.{non_neg}

-- n at or above 0 becomes 2n, below 0 becomes -2n - 1; `nat_abs n` is the absolute value, which below 0 is -n
unfoldable pub zigzag_encode : ℤ → ℕ
zigzag_encode n = cond (non_neg n) (2 * nat_abs n) (2 * nat_abs n - 1)

-- decoding undoes it: an even m is 2n for n = m / 2, an odd m is -2n - 1 for n = -(m + 1) / 2
unfoldable pub zigzag_decode : ℕ → ℤ
zigzag_decode m = cond (eqb (m % 2) 0) (pos (m / 2)) (neg_ℤ (pos ((m + 1) / 2)))
