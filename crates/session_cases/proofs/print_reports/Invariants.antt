-- `session_cases::print_reports` ends: each session is followed by fewer bytes.
use Rattle.std.proofs.Common.{length}
use Rattle.session_cases.proofs.print_reports.Given as goal

abbrev pub decreases-loop-n : goal.decreases-loop-n
decreases-loop-n l = length l.s
