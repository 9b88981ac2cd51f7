-- Three stores: a rotation, a sum, and an exclusive or that is rotated. Assumes nothing.
use Rattle.std.proofs.Common.{◌≡◌, ℕ, ◌+◌, ◌%◌, ◌^◌, List, set}
use Rattle.blake2b.specs.Blake2b.{w, ◌⊕◌, ◌>>>◌, ◌!◌}
use Rattle.blake2b_compress.specs.Parts.{half_end}
use Rattle.blake2b_compress.proofs.half_end.Goals as goal

stores : (v : List ℕ) (b c d p q t u y : ℕ) → t ≡ (v ! d) >>> p
    → u ≡ (set v d t ! c + set v d t ! d) % 2 ^ w
    → y ≡ (set (set v d t) c u ! b ⊕ set (set v d t) c u ! c) >>> q
    → set (set (set v d t) c u) b y ≡ half_end v b c d p q
unfolding half_end
stores v b c d p q t u y et eu ey = cc

pub returns : goal.returns
returns c = stores _ _ _ _ _ _ _ _ _ c.rotr.ensures c.wrapping_add_u64.ensures.value c.rotr-2.ensures
