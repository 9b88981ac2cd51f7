-- `report_text::put_message_text` meets its contract: the places, then the code.
use Rattle.wire.proofs.OutputLaws.{wrote_then}
use Rattle.report_text.specs.Lines.{message_text}
use Rattle.report_text.proofs.put_message_text.Goals as goal

pub returns-clause-wrote : goal.returns-clause-wrote
unfolding message_text
returns-clause-wrote c = rw (← c.from.ensures) (wrote_then c.span-a.ensures.wrote c.field.ensures.wrote)
