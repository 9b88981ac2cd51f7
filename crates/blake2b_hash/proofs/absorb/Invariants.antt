-- The loop's invariant: after i turns the first i blocks are absorbed. Assumes nothing.
use Rattle.std.proofs.Common.{◌≡◌, ℕ, ◌-◌, ◌≤◌, List}
use Rattle.blake2b_hash.specs.declared.Hash.{Hash}
use Rattle.blake2b_hash.specs.Running.{absorbed}
use Rattle.blake2b_hash.proofs.absorb.Given as goal

abbrev pub hash : List ℕ → ℕ → ℕ → Hash
hash h low high = record { h = h; t0 = low; t1 = high }

abbrev pub invariant-loop-i : goal.invariant-loop-i
invariant-loop-i l = (l.i ≤ l.n) × (hash l.h l.t0 l.t1 ≡ absorbed (hash l.initial.h l.initial.t0 l.initial.t1) l.s l.i)

abbrev pub decreases-loop-i : goal.decreases-loop-i
decreases-loop-i l = l.n - l.i
