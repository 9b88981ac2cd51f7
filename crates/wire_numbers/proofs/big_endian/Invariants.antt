-- `wire_numbers::big_endian` meets its contract. The loop's invariant and what follows from it stand in `NumberLaws`.
use Rattle.std.proofs.Common.{◌≤◌, take}
use Rattle.wire_numbers.proofs.NumberLaws.{NumberSoFar, ModuloSoFar}
use Rattle.wire_numbers.proofs.big_endian.Given as goal

abbrev pub invariant-loop-byte : goal.invariant-loop-byte
invariant-loop-byte g l =
    record {
      short : g.row.N ≤ 8 → NumberSoFar g.row.N (take g.row.N l.s) l.n l.byte-iterator.n l.byte-iterator.iter.rest.now;
      any : ModuloSoFar (take g.row.N l.s) l.n l.byte-iterator.n l.byte-iterator.iter.rest.now;
    }
