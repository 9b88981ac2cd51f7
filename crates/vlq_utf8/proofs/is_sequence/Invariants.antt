-- `vlq_utf8::is_sequence` answers as utf8 does: each turn is some steps of utf8_from (`proofs/Walk.antt`). The measure
-- is the bytes left.
use Rattle.std.proofs.Common.{◌-◌, length}
use Rattle.vlq_utf8.specs.Utf8.{utf8}
use Rattle.vlq_utf8.proofs.Walk.{Stands}
use Rattle.vlq_utf8.proofs.is_sequence.Given as goal

abbrev pub invariant-loop-at : goal.invariant-loop-at
invariant-loop-at l = Stands (utf8 l.s) l.s l.at 0 0x80 0xbf

abbrev pub decreases-loop-at : goal.decreases-loop-at
decreases-loop-at l = length l.s - l.at
