-- `vlq::Cursor::read_string` meets its contract: once the part is read, the test of its bytes decides.
use Rattle.std.proofs.Common.{sym, ◌∙◌, arith}
use Rattle.std.proofs.lemmas.Result.{err_from_is_err_and}
use Rattle.vlq.proofs.ShortStringLaws.{code_part, string-read, string-bad, string-refused}
use Rattle.vlq.proofs.Cursor.read_string.Goals as goal

pub returns-in_err-part : goal.returns-in_err-part
returns-in_err-part c =
    let p = err_from_is_err_and c.from_residual.result c.from_residual.ensures.1 in
    rw (p.1, p.2) (string-refused c.args.n c.args.s.now c.args.self.at c.in_err-part.ensures)

pub slice_bounds-is_utf8-count : goal.slice_bounds-is_utf8-count
slice_bounds-is_utf8-count c =
    let r = code_part c.args.n c.args.s.now c.args.self.at c.in_ok-part.ensures in
    omega (arith, r.start, r.end)

pub slice_bounds-is_utf8-start : goal.slice_bounds-is_utf8-start
slice_bounds-is_utf8-start c =
    let r = code_part c.args.n c.args.s.now c.args.self.at c.in_ok-part.ensures in
    omega (arith, r.start, r.end)

pub slice_bounds-is_utf8-end : goal.slice_bounds-is_utf8-end
slice_bounds-is_utf8-end c =
    let r = code_part c.args.n c.args.s.now c.args.self.at c.in_ok-part.ensures in
    omega (arith, r.end, r.inside)

pub returns-then-is_utf8 : goal.returns-then-is_utf8
returns-then-is_utf8 c = string-read _ _ _ c.in_ok-part.ensures (sym c.is_utf8.ensures ∙ c.if-is_utf8.true)

pub returns-else-is_utf8 : goal.returns-else-is_utf8
returns-else-is_utf8 c = string-bad _ _ _ c.in_ok-part.ensures (sym c.is_utf8.ensures ∙ c.if-is_utf8.false)
