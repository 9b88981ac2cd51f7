-- Two stores: the sum, and the exclusive or with it. Assumes nothing.
use Rattle.std.proofs.Common.{◌≡◌, ℕ, ◌+◌, ◌%◌, ◌^◌, List, set}
use Rattle.blake2b.specs.Blake2b.{w, ◌⊕◌, ◌!◌}
use Rattle.blake2b_compress.specs.Parts.{half_start}
use Rattle.blake2b_compress.proofs.half_start.Goals as goal

stores : (v : List ℕ) (a b d s : ℕ) → s ≡ (v ! a + v ! b) % 2 ^ w → set (set v a s) d (set v a s ! d ⊕ set v a s ! a) ≡ half_start v a b d
unfolding half_start
stores v a b d s es = cc

pub returns : goal.returns
returns c = stores _ _ _ _ _ c.wrapping_add_u64.ensures.value
