-- `report_text::put_message` meets its contract: the text, then the line's end.
use Rattle.wire.proofs.OutputLaws.{wrote_then}
use Rattle.report_text.specs.Lines.{message_line}
use Rattle.report_text.proofs.put_message.Goals as goal

pub returns-clause-wrote : goal.returns-clause-wrote
unfolding message_line
returns-clause-wrote c = wrote_then c.put_message_text-a.ensures.wrote c.newline.ensures.wrote
