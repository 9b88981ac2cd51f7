-- The loop is the RFC's: after i turns it has done its first i. Assumes nothing.
use Rattle.std.proofs.Common.{◌≡◌, ℕ, ◌+◌, List, set, refl, ap, ◌∙◌, add-one, arith, length-set}
use Rattle.blake2b.specs.Blake2b.{◌⊕◌, ◌!◌, for}
use Rattle.blake2b_compress.specs.Parts.{xored}
use Rattle.blake2b_compress.proofs.xor_halves.Invariants.{turns}
use Rattle.blake2b_compress.proofs.xor_halves.Goals as goal

more : (h₀ h v : List ℕ) (i : ℕ) → h ≡ turns h₀ v i → set h i (h ! i ⊕ v ! i ⊕ v ! (i + 8)) ≡ turns h₀ v (i + 1)
unfolding turns for
more h₀ h v i e = rw add-one (ap (λ (u : List ℕ). set u i (u ! i ⊕ v ! i ⊕ v ! (i + 8))) e)

all : (h₀ h v : List ℕ) (i : ℕ) → i ≡ 8 → h ≡ turns h₀ v i → h ≡ xored h₀ v
unfolding xored turns
all h₀ h v i e eh = eh ∙ ap (turns h₀ v) e

pub loop-i-init : goal.loop-i-init
unfolding turns for
loop-i-init c = (omega arith, omega arith, refl)

pub loop-i-preserved : goal.loop-i-preserved
loop-i-preserved c = (omega arith, simp length-set (omega arith), more _ _ _ _ c.loop-i.invariant.2)

pub returns : goal.returns
returns c = all _ _ _ c.loop-i.i (omega arith) c.loop-i.invariant.2
