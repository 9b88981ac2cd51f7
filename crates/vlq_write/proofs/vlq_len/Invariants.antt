-- `vlq_write::vlq_len` meets its contract. The invariant: the bytes counted and those of the rest, without the last, are those of v.
use mathlib.Core.Path.{◌≡◌}
use Prim.Native.Nat.{◌+◌, ◌≤◌}
use lib.ListN.{length}
use Rattle.vlq.specs.Vlq.{vlq_bytes}
use Rattle.vlq_write.proofs.vlq_len.Given as goal

abbrev pub invariant-loop-rest : goal.invariant-loop-rest
invariant-loop-rest l = (l.n + length (vlq_bytes l.rest) ≡ 1 + length (vlq_bytes l.v)) × (l.n + l.rest ≤ 1 + l.v)

abbrev pub decreases-loop-rest : goal.decreases-loop-rest
decreases-loop-rest l = l.rest
