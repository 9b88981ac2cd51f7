-- `vlq::Cursor::read_vlq` meets its contract. The loop's invariant and what follows from it stand in `VlqLoop`.
use Rattle.vlq.proofs.VlqLoop.{VlqSoFar}
use Rattle.vlq.proofs.Cursor.read_vlq.Given as goal

abbrev pub invariant-loop-i : goal.invariant-loop-i
invariant-loop-i l = VlqSoFar l.s l.at l.sum l.weight l.i
