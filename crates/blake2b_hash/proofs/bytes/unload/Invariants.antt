-- The loop's invariant: the first i bytes are the state's. Assumes nothing.
use Rattle.std.proofs.Common.{◌≡◌, ◌-◌, ◌≤◌}
use Rattle.blake2b.specs.Blake2b.{unwords}
use Rattle.blake2b.proofs.FilledLaws.{filled}
use Rattle.blake2b_hash.proofs.bytes.unload.Given as goal

abbrev pub invariant-loop-i : goal.invariant-loop-i
invariant-loop-i l = (l.i ≤ 32) × (l.out ≡ filled 32 (unwords l.h) l.i)

abbrev pub decreases-loop-i : goal.decreases-loop-i
decreases-loop-i l = 32 - l.i
