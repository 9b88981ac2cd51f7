-- `handshake_entry_write::put_version` meets its contract: three bytes.
use native.Mathlib.Omega.{arith}
use lib.ListN.{length-set}
use Rattle.handshake.proofs.TablesLaws.{numbers_of}
use Rattle.wire.proofs.OutputLaws.{wrote_three}
use Rattle.handshake_entry_write.proofs.put_version.Goals as goal

pub overflow_cast-out : goal.overflow_cast-out
overflow_cast-out c = omega (arith, (numbers_of c.args.e c.requires.e_value).major)

pub overflow_cast-out-2 : goal.overflow_cast-out-2
overflow_cast-out-2 c = omega (arith, (numbers_of c.args.e c.requires.e_value).minor)

pub bounds-out-at-2 : goal.bounds-out-at-2
bounds-out-at-2 c = simp length-set (omega arith)

pub overflow_cast-out-3 : goal.overflow_cast-out-3
overflow_cast-out-3 c = omega (arith, (numbers_of c.args.e c.requires.e_value).patch)

pub bounds-out-at-3 : goal.bounds-out-at-3
bounds-out-at-3 c = simp length-set (omega arith)

pub returns : goal.returns
returns c = wrote_three c.args.out.now c.args.at c.args.e.major c.args.e.minor c.args.e.patch
