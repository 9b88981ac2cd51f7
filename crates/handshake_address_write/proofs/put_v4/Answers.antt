-- `handshake_address_write::put_v4` meets its contract: flag, L, the address's bytes and the port.
use Rattle.std.proofs.Common.{arith}
use Rattle.std.proofs.lemmas.Grind.{common_steps}
use Rattle.wire.proofs.OutputLaws.{wrote_two, wrote_then, wrote_length}
use Rattle.wire_output.proofs.RoomLaws.{room-ok, wrote-ok}
use Rattle.handshake_address_write.proofs.put_v4.Goals as goal

pub unwrap-end-requires : goal.unwrap-end-requires
unwrap-end-requires c = room-ok _ _ _ _ c.write_part.ensures.value (grind (arith, common_steps))

pub unwrap-requires : goal.unwrap-requires
unwrap-requires c =
    let w = wrote-ok _ _ _ _ c.write_part.ensures.value c.write_part.ensures.out_after c.unwrap-end.ensures in
    room-ok _ _ _ _ c.write_vlq.ensures.value (grind (arith, common_steps, w.end, wrote_length w))

pub returns : goal.returns
returns c =
    let bytes = wrote-ok _ _ _ _ c.write_part.ensures.value c.write_part.ensures.out_after c.unwrap-end.ensures in
    let port = wrote-ok _ _ _ _ c.write_vlq.ensures.value c.write_vlq.ensures.out_after c.unwrap.ensures in
    wrote_then (wrote_two c.args.out.now c.args.at 1 8) (wrote_then (rw (c.big_endian_bytes.ensures, c.from.ensures) at bytes) (rw c.from-2.ensures at port))
