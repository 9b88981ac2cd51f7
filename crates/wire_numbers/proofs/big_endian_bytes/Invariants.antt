-- `wire_numbers::big_endian_bytes` meets its contract. The loop's invariant and what follows from it stand in `NumberLaws`.
use Rattle.std.proofs.Common.{◌-◌}
use Rattle.wire_numbers.proofs.NumberLaws.{BytesSoFar}
use Rattle.wire_numbers.proofs.big_endian_bytes.Given as goal

abbrev pub invariant-loop-i : goal.invariant-loop-i
invariant-loop-i g l = BytesSoFar l.n l.i (g.row.N - l.i) l.rest l.bytes
