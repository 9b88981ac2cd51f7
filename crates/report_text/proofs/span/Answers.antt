-- `report_text::span` meets its contract: one field after the other.
use Rattle.wire.proofs.OutputLaws.{wrote_then}
use Rattle.report_text.specs.Lines.{span}
use Rattle.report_text.proofs.span.Goals as goal

pub returns-clause-wrote : goal.returns-clause-wrote
unfolding span
returns-clause-wrote c = wrote_then c.field-a.ensures.wrote c.field.ensures.wrote
