-- `report_text::put_stop` meets its contract: the text with its numbers, then the line's end.
use Rattle.wire.proofs.OutputLaws.{wrote_then}
use Rattle.report_text.specs.Lines.{stop_line}
use Rattle.report_text.proofs.put_stop.Goals as goal

pub returns-clause-wrote : goal.returns-clause-wrote
unfolding stop_line
returns-clause-wrote c = rw (← c.from.ensures) (wrote_then c.span-a.ensures.wrote c.newline.ensures.wrote)
