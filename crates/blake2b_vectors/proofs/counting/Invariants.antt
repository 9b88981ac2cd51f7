-- The loop's invariant: i is at most 1,000, and the array keeps its length. Assumes nothing.
use mathlib.Core.Path.{◌≡◌}
use Prim.Native.Nat.{◌≤◌, ◌-◌}
use lib.ListN.{length}
use Rattle.blake2b_vectors.proofs.counting.Given as goal

abbrev pub invariant-loop-i : goal.invariant-loop-i
invariant-loop-i l = (l.i ≤ 1000) × (length l.s ≡ 1000)

abbrev pub decreases-loop-i : goal.decreases-loop-i
decreases-loop-i l = 1000 - l.i
