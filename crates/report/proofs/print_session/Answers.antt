-- `report::print_session` meets its contract: `long` and its line end are five bytes, and otherwise the bytes are those of the report.
use Rattle.std.proofs.Common.{le-ltb, lt-ltb}
use Rattle.report.specs.Report.{session_text}
use Rattle.report.proofs.print_session.Goals as goal

pub returns-then-s-gt-MAX_INPUT : goal.returns-then-s-gt-MAX_INPUT
unfolding session_text
returns-then-s-gt-MAX_INPUT c = rw (lt-ltb _ _ c.if-s-gt-MAX_INPUT.true)

pub returns : goal.returns
unfolding session_text
returns c = rw (le-ltb _ _ c.if-s-gt-MAX_INPUT.false) c.print_report.ensures
