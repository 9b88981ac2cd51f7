-- `vlq::Cursor::read_vlq_length` meets its contract: the definition, rewritten with what the VLQ's reader answered and with the test.
use mathlib.Core.Path.{sym}
use borrow.Author.Tests.{le-leb, lt-leb}
use Rattle.std.proofs.lemmas.Result.{err_from_is_err_and}
use Rattle.vlq.specs.Vlq.{vlq_length}
use Rattle.vlq.proofs.Cursor.read_vlq_length.Goals as goal

pub returns-then-v : goal.returns-then-v
unfolding vlq_length
returns-then-v c = rw (sym c.in_ok-v.ensures, le-leb _ _ c.if-v.true)

pub returns-else-v : goal.returns-else-v
unfolding vlq_length
returns-else-v c = rw (sym c.in_ok-v.ensures, lt-leb _ _ c.if-v.false)

pub returns-in_err-v : goal.returns-in_err-v
unfolding vlq_length
returns-in_err-v c =
    let p = err_from_is_err_and c.from_residual.result c.from_residual.ensures.1 in
    rw (p.1, p.2, sym c.in_err-v.ensures)
