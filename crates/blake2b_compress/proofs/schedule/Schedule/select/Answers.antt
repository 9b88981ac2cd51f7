-- The entry read is SIGMA's, and so below 16. Assumes nothing.
use Rattle.std.proofs.Common.{ℕ, ap, arith}
use Rattle.blake2b.specs.Blake2b.{◌!◌}
use Rattle.blake2b_compress.specs.Parts.{selected}
use Rattle.blake2b_compress.proofs.Order.{below, entry}
use Rattle.blake2b_compress.proofs.schedule.Schedule.select.Goals as goal

pub overflow_cast-k : goal.overflow_cast-k
overflow_cast-k c = omega (arith, below _ c.args.i c.args.j c.args.self.now.is_sigma c.requires)

pub offset_bounds-m-k : goal.offset_bounds-m-k
offset_bounds-m-k c = omega (arith, below _ c.args.i c.args.j c.args.self.now.is_sigma c.requires)

pub bounds-m-k : goal.bounds-m-k
bounds-m-k c = below _ c.args.i c.args.j c.args.self.now.is_sigma c.requires

pub returns : goal.returns
unfolding selected
returns c = ap (λ (k : ℕ). c.args.m.now ! k) (entry _ c.args.i _ c.args.self.now.is_sigma c.requires)
