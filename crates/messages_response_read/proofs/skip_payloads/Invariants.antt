-- `messages_response_read::skip_payloads` meets its contract. The loop's invariant and what follows from it stand in
-- `LoopLaws` of wire and `PayloadsLoop`.
use lib.ListN.{length}
use Rattle.messages.specs.Message.{payload, total}
use Rattle.wire.proofs.LoopLaws.{ListSoFar}
use Rattle.messages_response_read.proofs.skip_payloads.Given as goal

abbrev pub invariant-loop : goal.invariant-loop
invariant-loop l = ListSoFar (payload (length l.body)) total l.body l.n l.initial.at.0 l.total l.at.0 l.counter
