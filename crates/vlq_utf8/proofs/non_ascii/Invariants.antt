-- `vlq_utf8::non_ascii` meets its contract: before each turn the count is 0 only where none of the bytes so far is above 0x7F.
use Rattle.std.proofs.Common.{◌≡◌, ℕ, ◌<◌, ◌≤◌, get_or}
use Rattle.vlq_utf8.proofs.non_ascii.Given as goal

abbrev pub invariant-loop-b : goal.invariant-loop-b
invariant-loop-b l = (l.count ≤ l.b-index) × (l.count ≡ 0 → (i : ℕ) → i < l.b-index → get_or l.s i 0 < 0x80)
