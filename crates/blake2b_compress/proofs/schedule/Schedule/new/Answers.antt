-- The code's table is the ten rows of SIGMA. Assumes nothing.
use Rattle.std.proofs.Common.{refl}
use Rattle.blake2b.specs.Blake2b.{SIGMA}
use Rattle.blake2b_compress.specs.Parts.{joined}
use Rattle.blake2b_compress.proofs.schedule.Schedule.new.Goals as goal

pub invariant_of-result : goal.invariant_of-result
unfolding joined SIGMA
invariant_of-result c = record { is_sigma = refl }
