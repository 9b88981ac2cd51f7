-- `wire_numbers::big_endian_bytes` meets its contract. The loop's invariant and what follows from it stand in `NumberLaws`.
use Rattle.std.proofs.Common.{arith}
use Rattle.wire_numbers.proofs.NumberLaws.{bytes-start, bytes-again, bytes-end}
use Rattle.wire_numbers.proofs.big_endian_bytes.Goals as goal

pub loop-i-init : goal.loop-i-init
loop-i-init g c = bytes-start g.row.N c.args.n

pub loop-i-preserved : goal.loop-i-preserved
loop-i-preserved g c = bytes-again c.loop-i.invariant c.loop-i-test.true (omega arith)

pub returns : goal.returns
returns g c = bytes-end g.row.N c.loop-i.invariant c.loop-i-test.false
