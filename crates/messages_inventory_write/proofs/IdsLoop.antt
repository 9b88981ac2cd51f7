-- The loop that stores ids, each of which is inside the buffer.
use Prim.Native.Nat.{ℕ, ◌+◌, ◌-◌, ◌≤◌, ◌<◌}
use native.Mathlib.Omega.{arith}
use mathlib.Core.List.{List}
use mathlib.Core.Path.{◌≡◌}
use lib.Dec.{leb}
use lib.ListN.{length, get_or, take, drop}
use borrow.Author.Tests.{leb-true}
use Rattle.wire.specs.Output.{Wrote}
use Rattle.handshake.specs.Tables.{bytes_at}
use Rattle.handshake.proofs.PuttingLaws.{Putting, putting_passed, putting_room, putting_turn}

-- the rows before i were stored
abbrev pub PuttingIds : List ℕ → ℕ → List ℕ → List ℕ → List ℕ → ℕ → ℕ → Type 0
PuttingIds out₀ at ids buffer out o i =
    Putting (λ id. id) (λ at. bytes_at buffer at 32) (λ k. get_or ids k 0) (λ at. leb (at + 32) (length buffer)) (length ids) out₀ at out o i

module _ {out₀ : List ℕ} {at : ℕ} (ids buffer : List ℕ) {out : List ℕ} {o i : ℕ} (inv : PuttingIds out₀ at ids buffer out o i) (more : i < length ids) where
  abbrev from : ℕ
  from = get_or ids i 0

  size : from + 32 - from ≡ 32
  size = omega arith

  pub id-inside : from + 32 ≤ length buffer
  id-inside = leb-true (from + 32) (length buffer) (putting_passed inv more)

  pub id-room : o + length (take (from + 32 - from) (drop from buffer)) ≤ length out
  id-room = rw size (putting_room inv more)

  -- a turn stores one id
  pub id-stored : {e : ℕ} {last : List ℕ} → Wrote out o (take (from + 32 - from) (drop from buffer)) e last → PuttingIds out₀ at ids buffer last e (i + 1)
  id-stored w = putting_turn inv more (rw size at w)
