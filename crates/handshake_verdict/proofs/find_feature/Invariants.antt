-- `handshake_verdict::find_feature` meets its contract. The loop's invariant and what follows from it stand in `FoundLaws`.
use Rattle.handshake_verdict.proofs.FoundLaws.{NoneSoFar}
use Rattle.handshake_verdict.proofs.find_feature.Given as goal

abbrev pub invariant-loop : goal.invariant-loop
invariant-loop l = NoneSoFar l.id l.s l.end l.initial.d.at l.d.at l.counter
