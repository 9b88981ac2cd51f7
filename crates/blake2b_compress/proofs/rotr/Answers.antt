-- `rotr` is the RFC's rotation. Assumes nothing.
use Rattle.std.proofs.Common.{refl}
use Rattle.blake2b.specs.Blake2b.{◌>>>◌}
use Rattle.blake2b_compress.proofs.rotr.Goals as goal

pub returns : goal.returns
unfolding ◌>>>◌
returns c = refl
