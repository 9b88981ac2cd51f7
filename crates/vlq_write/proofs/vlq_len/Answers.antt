-- `vlq_write::vlq_len` meets its contract. The invariant: the bytes counted and those of the rest, without the last, are those of v.
use mathlib.Core.Path.{refl, ap}
use native.Mathlib.Omega.{arith}
use lib.ListN.{length}
use Rattle.vlq.proofs.VlqLaws.{vlq-last, vlq-more}
use Rattle.vlq_write.proofs.vlq_len.Goals as goal

pub loop-rest-init : goal.loop-rest-init
loop-rest-init c = (refl, omega arith)

pub loop-rest-preserved : goal.loop-rest-preserved
loop-rest-preserved c = omega (arith, ap length (vlq-more c.loop-rest.rest c.loop-rest-test.true))

pub returns : goal.returns
returns c = omega (arith, ap length (vlq-last c.loop-rest.rest c.loop-rest-test.false))
