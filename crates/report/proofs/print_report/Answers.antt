-- `report::print_report` meets its contract: each turn prints a block, and the rest of the report is to come.
use Rattle.std.proofs.Common.{ℕ, refl}
use lib.ListN.{length-replicate}
use Rattle.report.proofs.BlockLaws.{print_start, print_turn, print_end}
use Rattle.report.proofs.print_report.Goals as goal

pub loop-at-init : goal.loop-at-init
loop-at-init c = print_start c.args.network c.args.cap c.args.s.now

pub loop-at-smaller : goal.loop-at-smaller
loop-at-smaller c = (print_turn c.args.network c.args.cap c.args.s.now c.put_lines-lines.result _ (length-replicate {A = ℕ} 65536 0) c.put_lines-lines.ensures.value c.in-Continue.is c.loop-at.invariant refl).1

pub loop-at-preserved : goal.loop-at-preserved
loop-at-preserved c = (print_turn c.args.network c.args.cap c.args.s.now c.put_lines-lines.result _ (length-replicate {A = ℕ} 65536 0) c.put_lines-lines.ensures.value c.in-Continue.is c.loop-at.invariant refl).0

pub returns : goal.returns
returns c = print_end c.args.network c.args.cap c.args.s.now c.in_default.not-Continue c.loop-at.invariant
