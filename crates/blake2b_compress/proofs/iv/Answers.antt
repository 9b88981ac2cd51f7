-- The code's table is IV. Assumes nothing.
use Rattle.std.proofs.Common.{refl}
use Rattle.blake2b.specs.Blake2b.{IV}
use Rattle.blake2b_compress.proofs.iv.Goals as goal

pub returns : goal.returns
unfolding IV
returns c = refl
