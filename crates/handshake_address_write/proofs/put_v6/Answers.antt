-- `handshake_address_write::put_v6` meets its contract: flag, L, the address's bytes and the port.
use Rattle.std.proofs.Common.{arith}
use Rattle.std.proofs.lemmas.Grind.{common_steps}
use Rattle.wire.proofs.OutputLaws.{wrote_two, wrote_then, wrote_length}
use Rattle.wire_output.proofs.RoomLaws.{room-ok, wrote-ok}
use Rattle.handshake_address_write.proofs.put_v6.Goals as goal

pub unwrap-middle-requires : goal.unwrap-middle-requires
unwrap-middle-requires c = room-ok _ _ _ _ c.write_part.ensures.value (grind (arith, common_steps))

pub unwrap-end-requires : goal.unwrap-end-requires
unwrap-end-requires c =
    let v = wrote-ok _ _ _ _ c.write_part.ensures.value c.write_part.ensures.out_after c.unwrap-middle.ensures in
    room-ok _ _ _ _ c.write_part-2.ensures.value (grind (arith, common_steps, v.end, wrote_length v))

pub unwrap-requires : goal.unwrap-requires
unwrap-requires c =
    let v = wrote-ok _ _ _ _ c.write_part.ensures.value c.write_part.ensures.out_after c.unwrap-middle.ensures in
    let w = wrote-ok _ _ _ _ c.write_part-2.ensures.value c.write_part-2.ensures.out_after c.unwrap-end.ensures in
    room-ok _ _ _ _ c.write_vlq.ensures.value (grind (arith, common_steps, v.end, wrote_length v, w.end, wrote_length w))

pub returns : goal.returns
returns c =
    let high = wrote-ok _ _ _ _ c.write_part.ensures.value c.write_part.ensures.out_after c.unwrap-middle.ensures in
    let low = wrote-ok _ _ _ _ c.write_part-2.ensures.value c.write_part-2.ensures.out_after c.unwrap-end.ensures in
    let port = wrote-ok _ _ _ _ c.write_vlq.ensures.value c.write_vlq.ensures.out_after c.unwrap.ensures in
    let first = rw c.big_endian_bytes.ensures at high in
    let last = rw c.big_endian_bytes-2.ensures at low in
    wrote_then (wrote_two c.args.out.now c.args.at 1 20) (wrote_then first (wrote_then last (rw c.from.ensures at port)))
