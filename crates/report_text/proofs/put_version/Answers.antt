-- `report_text::put_version` meets its contract: one number after the other.
use Rattle.wire.proofs.OutputLaws.{wrote_then}
use Rattle.report_text.specs.Lines.{version_text}
use Rattle.report_text.proofs.put_version.Goals as goal

pub returns-clause-wrote : goal.returns-clause-wrote
unfolding version_text
returns-clause-wrote c = rw (← c.from.ensures, ← c.from-2.ensures, ← c.from-3.ensures) (wrote_then c.field-a.ensures.wrote (wrote_then c.field-b.ensures.wrote c.field.ensures.wrote))
