-- `handshake_entry_write::put_string` meets its contract: the length byte was stored, then the bytes.
use Rattle.std.proofs.Common.{arith, length, length-set}
use Rattle.wire.proofs.OutputLaws.{wrote_then, wrote_byte}
use Rattle.wire_output.proofs.RoomLaws.{room-ok, wrote-ok}
use Rattle.handshake_entry_write.proofs.put_string.Goals as goal

pub unwrap-requires : goal.unwrap-requires
unwrap-requires c = room-ok _ _ _ _ c.write_part.ensures.value (simp length-set (omega arith))

pub returns : goal.returns
returns c =
    let part = wrote-ok _ _ _ _ c.write_part.ensures.value c.write_part.ensures.out_after c.unwrap.ensures in
    wrote_then (wrote_byte c.args.out.now c.args.at (length c.args.s.now)) part
