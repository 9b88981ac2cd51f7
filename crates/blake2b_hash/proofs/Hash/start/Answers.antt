-- The state before the first block, with the digest length in the parameter word, and nothing counted. Assumes nothing.
use Rattle.std.proofs.Common.{ℕ, List, set, ap}
use Rattle.blake2b.specs.Blake2b.{◌⊕◌, ◌!◌, p, h0}
use Rattle.blake2b_hash.specs.Running.{hash, started}
use Rattle.blake2b_hash.proofs.Hash.start.Goals as goal

pub returns : goal.returns
unfolding started h0 p
returns c = ap (λ (u : List ℕ). hash (set u 0 (u ! 0 ⊕ 0x01010020)) 0) c.iv-h.ensures
