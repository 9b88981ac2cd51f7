-- `messages_response_write::payloads_inside` meets its contract: the rows before k are inside the buffer.
use Prim.Native.Nat.{◌+◌, ◌/◌}
use mathlib.Core.Bool.{◌&&◌}
use lib.Dec.{leb}
use lib.ListN.{length}
use Rattle.handshake.proofs.RowsLaws.{Passed}
use Rattle.messages.specs.Writes.{payload_row}
use Rattle.messages_response_write.proofs.payloads_inside.Given as goal

abbrev pub invariant-loop-k : goal.invariant-loop-k
invariant-loop-k l = Passed (λ row. leb (row.id + 32) l.len && leb (row.at + row.len) l.len) (payload_row l.payloads) (length l.payloads / 3) l.k
