-- `messages_response_write::put_rows` meets its contract: the rows before k were stored.
use Prim.Native.Nat.{◌/◌}
use lib.ListN.{length}
use Rattle.handshake.proofs.PuttingLaws.{Putting}
use Rattle.messages.specs.Value.{payload_bytes}
use Rattle.messages.specs.Writes.{payload_row, payload_from_row, payload_inside}
use Rattle.messages_response_write.proofs.put_rows.Given as goal

abbrev pub invariant-loop-k : goal.invariant-loop-k
invariant-loop-k l = Putting payload_bytes (payload_from_row l.buffer) (payload_row l.payloads) (payload_inside l.buffer) (length l.payloads / 3) l.initial.out l.at l.out l.o l.k
