-- `vlq_write::put_short_string` meets its contract: the length byte was stored, and then the string.
use Rattle.std.proofs.Common.{arith, length-set}
use Rattle.wire.proofs.OutputLaws.{wrote_byte, wrote_then}
use Rattle.wire_output.proofs.RoomLaws.{room-ok, wrote-ok}
use Rattle.vlq_write.proofs.put_short_string.Goals as goal

pub unwrap-requires : goal.unwrap-requires
unwrap-requires c = room-ok _ _ _ _ c.write_part.ensures.value (simp length-set (omega (arith, c.requires.s_in_bounds)))

pub returns : goal.returns
returns c = wrote_then (wrote_byte _ _ _) (wrote-ok _ _ _ _ c.write_part.ensures.value c.write_part.ensures.out_after c.unwrap.ensures)
