-- The number of blocks before the last. Assumes nothing.
use Rattle.std.proofs.Common.{arith}
use Rattle.blake2b.proofs.Blake2bLaws.{dd-before}
use Rattle.blake2b_hash.proofs.before_last.Goals as goal

pub returns-then-n-eq0 : goal.returns-then-n-eq0
returns-then-n-eq0 c = omega (arith, dd-before c.args.n)

pub returns-else-n-eq0 : goal.returns-else-n-eq0
returns-else-n-eq0 c = omega (arith, dd-before c.args.n)
