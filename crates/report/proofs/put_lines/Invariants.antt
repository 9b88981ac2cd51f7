-- `report::put_lines` meets its contract: each turn stores the line of a step, and what is to come is the block in the room that is left.
use Rattle.std.specs.declared.ops.ControlFlow.TheVariants.{Continue}
use Rattle.report.proofs.ReportLaws.{lines_from}
use Rattle.report.proofs.BlockLaws.{Laying}
use Rattle.report.proofs.put_lines.Given as goal

abbrev pub invariant-loop-out : goal.invariant-loop-out
invariant-loop-out l = Laying l.network l.cap l.s l.initial.out l.fn.at.0 l.out l.len (Continue l.place)

abbrev pub decreases-loop-out : goal.decreases-loop-out
decreases-loop-out l = lines_from l.network l.cap l.s (Continue l.place)
