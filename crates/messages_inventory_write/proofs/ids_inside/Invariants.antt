-- `messages_inventory_write::ids_inside` meets its contract: the ids before this one are inside the buffer.
use Prim.Native.Nat.{◌+◌}
use lib.Dec.{leb}
use lib.ListN.{length, get_or}
use Rattle.handshake.proofs.RowsLaws.{Passed}
use Rattle.messages_inventory_write.proofs.ids_inside.Given as goal

abbrev pub invariant-loop-at : goal.invariant-loop-at
invariant-loop-at l = Passed (λ at. leb (at + 32) l.len) (λ k. get_or l.ids k 0) (length l.ids) l.at-index
