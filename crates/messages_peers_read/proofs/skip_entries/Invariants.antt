-- `messages_peers_read::skip_entries` meets its contract. The loop's invariant and what follows from it stand in `LoopLaws` of wire.
use Rattle.handshake.specs.Entry.{entry}
use Rattle.messages_peers_read.specs.Answers.{entries_ended}
use Rattle.wire.proofs.LoopLaws.{ListSoFar}
use Rattle.messages_peers_read.proofs.skip_entries.Given as goal

abbrev pub invariant-loop : goal.invariant-loop
invariant-loop l = ListSoFar (λ before. entry) entries_ended l.body l.n l.initial.d.at tt l.d.at l.counter
