-- The loop that adds the lengths of at most 400 rows, each of which is within the limit: the sum fits its type.
use Prim.Native.Nat.{ℕ, ◌+◌, ◌-◌, ◌*◌, ◌≤◌, ◌<◌}
use native.Mathlib.Nat.{sub-zero}
use native.Mathlib.Omega.{arith}
use mathlib.Core.Bool.{true}
use mathlib.Core.Path.{◌≡◌, ap}
use Rattle.wire.specs.Bytes.{every}
use Rattle.handshake.specs.Tables.{rows}
use Rattle.handshake.proofs.RowsLaws.{rows_next, rows_none, every_here, every_rest}
use Rattle.messages.specs.declared.PayloadRow.{PayloadRow}
use Rattle.messages_response_write.specs.Asked.{row_within}
use Rattle.messages_response_write.specs.Asked.{row_length, rows_length}

-- the rows before k were added
pub record Adding (f : ℕ → PayloadRow) (n size k : ℕ) : Type 0 where
  pub few : k ≤ n
  pub most : n ≤ 400
  pub within : every row_within (rows f k (n - k)) ≡ true
  pub below : size ≤ k * 16388650
  pub sum : size + rows_length (rows f k (n - k)) ≡ rows_length (rows f 0 n)

pub adding_start : (f : ℕ → PayloadRow) (n : ℕ) → n ≤ 400 → every row_within (rows f 0 n) ≡ true → Adding f n 0 0
adding_start f n m w = record { few = omega arith; most = m; within = rw sub-zero w; below = omega arith; sum = rw sub-zero (omega arith) }

module _ {f : ℕ → PayloadRow} {n size k : ℕ} (inv : Adding f n size k) where
  pub adding_within : k < n → row_within (f k) ≡ true
  adding_within more = every_here row_within f k n more inv.within

  pub adding_turn : {x : ℕ} → k < n → x ≡ row_length (f k) → x ≤ 16388650 → Adding f n (size + x) (k + 1)
  unfolding rows_length
  adding_turn more e b =
      record {
        few = omega arith;
        most = inv.most;
        within = every_rest row_within f k n more inv.within;
        below = omega (arith, inv.below);
        sum = omega (arith, inv.sum, e, ap rows_length (rows_next f k n more));
      }

  pub adding_end : n ≤ k → (size ≡ rows_length (rows f 0 n)) × (size ≤ 6555460000)
  unfolding rows_length
  adding_end h = (omega (arith, inv.sum, ap rows_length (rows_none f k n h)), omega (arith, inv.below, inv.few, inv.most))
