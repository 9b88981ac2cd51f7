-- `wire_part_write::put_ends` meets its contract: the last N bytes are stored over what the first N left of them.
use native.Mathlib.Omega.{arith}
use Rattle.wire_part_write.specs.LastBlockLaws.{last_block}
use Rattle.wire_part_write.proofs.put_ends.Goals as goal

pub returns : goal.returns
returns g c =
    last_block g.row.N c.args.s.now g.row.N (omega arith) (omega arith) (omega arith) (omega arith)
    (rw c.block_at-first.ensures at c.copy_part-rest.ensures) c.block_at-last.ensures c.copy_part.ensures
