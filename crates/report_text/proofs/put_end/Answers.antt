-- `report_text::put_end` meets its contract: the field was stored, then the line's end.
use Rattle.wire.proofs.OutputLaws.{wrote_then}
use Rattle.report_text.specs.Lines.{end_line}
use Rattle.report_text.proofs.put_end.Goals as goal

pub returns-clause-wrote : goal.returns-clause-wrote
unfolding end_line
returns-clause-wrote c = wrote_then c.field-a.ensures.wrote c.newline.ensures.wrote
