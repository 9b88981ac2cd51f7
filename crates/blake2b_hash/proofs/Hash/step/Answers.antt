-- One block absorbed. Assumes nothing.
use Rattle.std.proofs.Common.{◌≡◌, ℕ, List, length, ap, ◌∙◌, arith, rules}
use Rattle.blake2b_hash.specs.declared.Hash.{Hash}
use Rattle.blake2b.specs.Blake2b.{bb, for}
use Rattle.blake2b.proofs.Blake2bLaws.{d-whole}
use Rattle.blake2b_hash.specs.Running.{advanced, absorbed, stepped}
use Rattle.blake2b_hash.proofs.Hash.step.Goals as goal

law : (x y : Hash) (b : List ℕ) → length b ≡ bb → y ≡ absorbed x b 1 → y ≡ stepped x b
unfolding stepped absorbed for
law x y b l ey = ey ∙ ap (advanced x) (d-whole b 0 (omega arith))

pub returns : goal.returns
returns c = law _ _ _ (search rules) c.absorb.ensures
