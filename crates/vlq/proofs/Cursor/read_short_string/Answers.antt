-- `vlq::Cursor::read_short_string` meets its contract: the definition, rewritten with what its two readers answered.
use mathlib.Core.Path.{sym}
use Rattle.std.proofs.lemmas.Result.{err_from_is_err_and}
use Rattle.wire.specs.Reader.{map_answer}
use Rattle.vlq.specs.ShortString.{short_string}
use Rattle.vlq.proofs.Cursor.read_short_string.Goals as goal

pub returns-in_err-n : goal.returns-in_err-n
unfolding short_string map_answer
returns-in_err-n c =
    let p = err_from_is_err_and c.from_residual.result c.from_residual.ensures.1 in
    rw (p.1, p.2, sym c.in_err-n.ensures)

pub returns : goal.returns
unfolding short_string map_answer
returns c = rw (sym c.in_ok-n.ensures) c.read_string.ensures
