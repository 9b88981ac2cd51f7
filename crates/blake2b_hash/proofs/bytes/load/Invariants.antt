-- The loop's invariant: the first i words are the block's. Assumes nothing.
use Rattle.std.proofs.Common.{◌≡◌, ◌-◌, ◌≤◌, drop}
use Rattle.blake2b.specs.Blake2b.{words}
use Rattle.blake2b.proofs.FilledLaws.{filled}
use Rattle.blake2b_hash.proofs.bytes.load.Given as goal

abbrev pub invariant-loop-i : goal.invariant-loop-i
invariant-loop-i l = (l.i ≤ 16) × (l.m ≡ filled 16 (words 16 (drop l.at l.s)) l.i)

abbrev pub decreases-loop-i : goal.decreases-loop-i
decreases-loop-i l = 16 - l.i
