-- The loop that stores the rows of a table one after the other: those before i were stored, those from i on are still to be stored, and all of them
-- passed a test.
use Rattle.std.specs.Prelude.{ℕ, ◌+◌, ◌-◌, ◌≤◌, ◌<◌, Bool, true, ◌≡◌, length}
use Rattle.std.proofs.Math.Nat.{sub-zero}
use Rattle.std.proofs.Common.{arith}
use mathlib.Core.List.{List, map, flat_map}
use Rattle.wire.specs.Bytes.{every}
use Rattle.wire.specs.Output.{Wrote}
use Rattle.wire.proofs.OutputLaws.{Writing, writing_start, writing-turn, writing-end, writing-room}
use Rattle.handshake.specs.Tables.{rows}
use Rattle.handshake.proofs.RowsLaws.{every_here, every_rest, bytes_next, bytes-none}

-- a row is f k, its value is value (f k), and the value's bytes are stored
pub record Putting {A B : Type 0} (bytes : B → List ℕ) (value : A → B) (f : ℕ → A) (test : A → Bool) (n : ℕ) (out₀ : List ℕ) (at : ℕ) (out : List ℕ) (o i : ℕ) : Type 0 where
  pub few : i ≤ n
  pub passed : every test (rows f i (n - i)) ≡ true
  pub room : at + length (flat_map bytes (map value (rows f 0 n))) ≤ length out₀
  pub writing : Writing out₀ at (flat_map bytes (map value (rows f 0 n))) o out (flat_map bytes (map value (rows f i (n - i))))

pub putting_start : {A B : Type 0} (bytes : B → List ℕ) (value : A → B) (f : ℕ → A) (test : A → Bool) (n : ℕ) (out₀ : List ℕ) (at : ℕ)
    → every test (rows f 0 n) ≡ true → at + length (flat_map bytes (map value (rows f 0 n))) ≤ length out₀ → Putting bytes value f test n out₀ at out₀ at 0
putting_start bytes value f test n out₀ at p h =
    record { few = omega arith; passed = rw sub-zero p; room = h; writing = rw sub-zero (writing_start _ _ _) }

module _ {A B : Type 0} {bytes : B → List ℕ} {value : A → B} {f : ℕ → A} {test : A → Bool} {n : ℕ} {out₀ : List ℕ} {at : ℕ} {out : List ℕ} {o i : ℕ}
    (inv : Putting bytes value f test n out₀ at out o i)
  where
    -- the next row
    pub putting_passed : i < n → test (f i) ≡ true
    putting_passed more = every_here test f i n more inv.passed

    pub putting_room : i < n → o + length (bytes (value (f i))) ≤ length out
    putting_room more = writing-room (bytes (value (f i))) _ (bytes_next bytes value f i n more) inv.writing inv.room

    pub putting_turn : {e : ℕ} {last : List ℕ} → i < n → Wrote out o (bytes (value (f i))) e last → Putting bytes value f test n out₀ at last e (i + 1)
    putting_turn more w =
        record {
          few = omega arith;
          passed = every_rest test f i n more inv.passed;
          room = inv.room;
          writing = writing-turn (bytes (value (f i))) _ (bytes_next bytes value f i n more) inv.writing w;
        }

    pub putting_end : n ≤ i → Wrote out₀ at (flat_map bytes (map value (rows f 0 n))) o out
    putting_end h = writing-end (bytes-none bytes value f i n h) inv.writing
