-- `report_text::put_peers` meets its contract: one part after the other.
use Rattle.wire.proofs.OutputLaws.{wrote_then}
use Rattle.report_text.specs.Lines.{peers_line}
use Rattle.report_text.proofs.put_peers.Goals as goal

pub returns-clause-wrote : goal.returns-clause-wrote
unfolding peers_line
returns-clause-wrote c = wrote_then c.put_message_text-a.ensures.wrote (wrote_then c.field-b.ensures.wrote (wrote_then c.field-c.ensures.wrote c.newline.ensures.wrote))
