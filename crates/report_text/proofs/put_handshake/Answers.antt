-- `report_text::put_handshake` meets its contract: one part after the other.
use Rattle.wire.proofs.OutputLaws.{wrote_then}
use Rattle.report_text.specs.Lines.{handshake_line}
use Rattle.report_text.proofs.put_handshake.Goals as goal

pub returns-clause-wrote : goal.returns-clause-wrote
unfolding handshake_line
returns-clause-wrote c = rw (← c.from.ensures) (wrote_then c.span-a.ensures.wrote (wrote_then c.put_version-b.ensures.wrote (wrote_then c.field-c.ensures.wrote c.newline.ensures.wrote)))
