-- `export_replay::print::bytes` ends: each turn takes eight of the bytes that are left.
use Rattle.std.proofs.Common.{length}
use Rattle.export_replay.proofs.print.bytes.Given as goal

abbrev pub decreases-loop-eight : goal.decreases-loop-eight
decreases-loop-eight g l = length l.rest
