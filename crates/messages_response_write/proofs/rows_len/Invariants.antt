-- `messages_response_write::rows_len` meets its contract: the lengths of the rows before k were added.
use Prim.Native.Nat.{◌/◌}
use lib.ListN.{length}
use Rattle.messages.specs.Writes.{payload_row}
use Rattle.messages_response_write.proofs.LengthLoop.{Adding}
use Rattle.messages_response_write.proofs.rows_len.Given as goal

abbrev pub invariant-loop-k : goal.invariant-loop-k
invariant-loop-k l = Adding (payload_row l.payloads) (length l.payloads / 3) l.size l.k
