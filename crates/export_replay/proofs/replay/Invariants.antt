-- `export_replay::replay` is safe and ends: there are at most as many cases as bytes, and the measure is what is left of the bytes.
use Rattle.std.proofs.Common.{◌+◌, ◌≤◌, length}
use Rattle.export_replay.proofs.replay.Given as goal

abbrev pub invariant-loop-rest : goal.invariant-loop-rest
invariant-loop-rest g l = l.n + length l.rest ≤ length l.cases

abbrev pub decreases-loop-rest : goal.decreases-loop-rest
decreases-loop-rest g l = length l.rest
