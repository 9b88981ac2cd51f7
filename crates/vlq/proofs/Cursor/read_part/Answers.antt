-- `vlq::Cursor::read_part` meets its contract: each answer is the field's, by the tests that led to it.
use mathlib.Core.Path.{sym}
use native.Mathlib.Omega.{arith}
use Rattle.wire.specs.Reader.{map_answer}
use Rattle.wire.proofs.ReaderLaws.{part-place, part_missing, part-outside}
use Rattle.vlq.proofs.Cursor.read_part.Goals as goal

pub returns-then-s-at : goal.returns-then-s-at
unfolding map_answer
returns-then-s-at c = rw (part-outside c.args.n c.args.s.now c.args.self.at c.if-s-at.true)

pub returns-then-n-s : goal.returns-then-n-s
returns-then-n-s c = sym (part-place c.args.n c.args.s.now c.args.self.at (omega arith))

pub returns-else-n-s : goal.returns-else-n-s
unfolding map_answer
returns-else-n-s c = rw (part_missing c.args.n c.args.s.now c.args.self.at (omega arith) (omega arith))
