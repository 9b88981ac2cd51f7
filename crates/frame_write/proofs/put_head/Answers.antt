-- `frame_write::put_head` meets its contract: the magic was stored, the code, and then the body length.
use Rattle.std.proofs.Common.{arith}
use Rattle.std.proofs.lemmas.Grind.{common_steps}
use Rattle.wire.proofs.OutputLaws.{wrote_length}
use Rattle.wire_output.proofs.RoomLaws.{room-ok, wrote-ok}
use Rattle.frame_write.proofs.Stores.{head_stored}
use Rattle.frame_write.proofs.put_head.Goals as goal

pub unwrap-end-requires : goal.unwrap-end-requires
unwrap-end-requires c = room-ok _ _ _ _ c.write_part.ensures.value (grind (arith, common_steps))

pub bounds-out-end : goal.bounds-out-end
bounds-out-end c =
    let m = wrote-ok _ _ _ _ c.write_part.ensures.value c.write_part.ensures.out_after c.unwrap-end.ensures in
    grind (arith, common_steps, m.end, wrote_length m)

pub overflow_add-end : goal.overflow_add-end
overflow_add-end c =
    let m = wrote-ok _ _ _ _ c.write_part.ensures.value c.write_part.ensures.out_after c.unwrap-end.ensures in
    grind (arith, common_steps, m.end, wrote_length m)

pub unwrap-requires : goal.unwrap-requires
unwrap-requires c =
    let m = wrote-ok _ _ _ _ c.write_part.ensures.value c.write_part.ensures.out_after c.unwrap-end.ensures in
    room-ok _ _ _ _ c.write_part-2.ensures.value (grind (arith, common_steps, m.end, wrote_length m))

pub returns : goal.returns
returns c =
    let magic = wrote-ok _ _ _ _ c.write_part.ensures.value c.write_part.ensures.out_after c.unwrap-end.ensures in
    let size = wrote-ok _ _ _ _ c.write_part-2.ensures.value c.write_part-2.ensures.out_after c.unwrap.ensures in
    head_stored c.args.network c.args.code c.args.n c.magic.ensures c.big_endian_bytes.ensures magic size
