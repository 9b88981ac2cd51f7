-- `vlq_utf8::after_followers` meets its contract: each turn is one step of utf8_from (`proofs/Walk.antt`).
use Rattle.std.proofs.Common.{◌≤◌, drop}
use Rattle.vlq_utf8.specs.Utf8.{utf8_from}
use Rattle.vlq_utf8.proofs.Walk.{Stands}
use Rattle.vlq_utf8.proofs.after_followers.Given as goal

abbrev pub invariant-loop-left : goal.invariant-loop-left
invariant-loop-left l = (l.at ≤ l.next) × Stands (utf8_from (drop l.at l.s) l.fn.lead.followers l.fn.lead.low l.fn.lead.high) l.s l.next l.left l.low l.high

abbrev pub decreases-loop-left : goal.decreases-loop-left
decreases-loop-left l = l.left
