-- `wire_part_write::put_blocks` meets its contract: before each turn the first 64 * k bytes of s were stored.
use Rattle.std.proofs.Common.{◌≡◌, ◌+◌, ◌*◌, length, take}
use Rattle.wire.specs.Output.{Wrote}
use Rattle.wire_part_write.proofs.put_blocks.Given as goal

abbrev pub invariant-loop-k : goal.invariant-loop-k
invariant-loop-k l = (length l.out ≡ length l.initial.out) × Wrote l.initial.out l.at (take (64 * l.k) l.s) (l.at + 64 * l.k) l.out
