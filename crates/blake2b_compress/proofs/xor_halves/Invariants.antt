-- The loop is the RFC's: after i turns it has done its first i. Assumes nothing.
use Rattle.std.proofs.Common.{◌≡◌, ℕ, ◌+◌, ◌-◌, ◌≤◌, List, length, set}
use Rattle.blake2b.specs.Blake2b.{◌⊕◌, ◌!◌, for}
use Rattle.blake2b_compress.proofs.xor_halves.Given as goal

unfoldable pub turns : List ℕ → List ℕ → ℕ → List ℕ
turns h v i = for i (λ i h. set h i (h ! i ⊕ v ! i ⊕ v ! (i + 8))) h

abbrev pub invariant-loop-i : goal.invariant-loop-i
invariant-loop-i l = (l.i ≤ 8) × (length l.h ≡ 8) × (l.h ≡ turns l.initial.h l.v l.i)

abbrev pub decreases-loop-i : goal.decreases-loop-i
decreases-loop-i l = 8 - l.i
