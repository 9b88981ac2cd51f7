-- `report::print_report` meets its contract: each turn prints a block, and the rest of the report is to come.
use Rattle.report.proofs.ReportLaws.{lines_from}
use Rattle.report.proofs.BlockLaws.{Printed}
use Rattle.report.proofs.print_report.Given as goal

abbrev pub invariant-loop-at : goal.invariant-loop-at
invariant-loop-at l = Printed l.network l.cap l.s l.at l.printed

abbrev pub decreases-loop-at : goal.decreases-loop-at
decreases-loop-at l = lines_from l.network l.cap l.s l.at
