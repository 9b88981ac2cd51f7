-- `handshake_read::skip_features` meets its contract. The loop's invariant and what follows from it stand in `LoopLaws` of wire.
use Rattle.wire.proofs.LoopLaws.{ListSoFar}
use Rattle.handshake.specs.Entry.{feature}
use Rattle.handshake_read.specs.Answers.{features_ended}
use Rattle.handshake_read.proofs.skip_features.Given as goal

abbrev pub invariant-loop : goal.invariant-loop
invariant-loop l = ListSoFar (λ before. feature) features_ended l.s l.n l.initial.d.at tt l.d.at l.counter
