-- `messages_inventory_write::put_rows` meets its contract: the ids before this one were stored.
use native.Mathlib.Omega.{arith}
use Rattle.wire_output.proofs.RoomLaws.{room-ok, wrote-ok}
use Rattle.handshake.proofs.PuttingLaws.{putting_start, putting_end}
use Rattle.messages.specs.Writes.{ids_of}
use Rattle.messages_inventory_write.proofs.IdsLoop.{id-inside, id-room, id-stored}
use Rattle.messages_inventory_write.proofs.put_rows.Goals as goal

pub loop-id-init : goal.loop-id-init
unfolding ids_of
loop-id-init c = putting_start _ _ _ _ _ _ _ c.requires.buffer_value c.requires.buffer_in_bounds

pub slice_bounds-write_part-end : goal.slice_bounds-write_part-end
slice_bounds-write_part-end c = omega (arith, id-inside c.args.ids.now c.args.buffer.now c.loop-id.invariant (omega arith))

pub unwrap-end-requires : goal.unwrap-end-requires
unwrap-end-requires c = room-ok _ _ _ _ c.write_part.ensures.value (id-room c.args.ids.now c.args.buffer.now c.loop-id.invariant (omega arith))

pub loop-id-preserved : goal.loop-id-preserved
loop-id-preserved c =
    let w = wrote-ok _ _ _ _ c.write_part.ensures.value c.write_part.ensures.out_after c.unwrap-end.ensures in
    id-stored c.args.ids.now c.args.buffer.now c.loop-id.invariant (omega arith) w

pub shape_of-out : goal.shape_of-out
shape_of-out c = c.loop-id.invariant.writing.size

pub returns : goal.returns
unfolding ids_of
returns c = putting_end c.loop-id.invariant (omega arith)
