-- `messages_response_write::payloads_within` meets its contract: the lengths of the rows before k are within the limit.
use Prim.Native.Nat.{◌/◌}
use lib.ListN.{length}
use Rattle.handshake.proofs.RowsLaws.{Passed}
use Rattle.messages.specs.Writes.{payload_row}
use Rattle.messages_response_write.specs.Asked.{row_within}
use Rattle.messages_response_write.proofs.payloads_within.Given as goal

abbrev pub invariant-loop-k : goal.invariant-loop-k
invariant-loop-k l = Passed row_within (payload_row l.payloads) (length l.payloads / 3) l.k
