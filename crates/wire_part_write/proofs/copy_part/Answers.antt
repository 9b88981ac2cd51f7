-- `wire_part_write::copy_part` meets its contract: what `copy_from_slice` leaves is the write.
use native.Mathlib.Omega.{arith}
use Rattle.wire_part_write.specs.CopiedLaws.{wrote_copied}
use Rattle.wire_part_write.proofs.copy_part.Goals as goal

pub returns : goal.returns
returns c = wrote_copied c.args.out.now c.args.at _ c.args.s.now _ c.copy_from_slice.ensures.after (omega arith) c.requires
