-- `messages_inventory_write::put_body` meets its contract: the type byte was stored, the count, and then the ids.
use native.Mathlib.Omega.{arith}
use lib.ListN.{length-set}
use Rattle.wire.proofs.OutputLaws.{wrote_byte, wrote_then, wrote_length}
use Rattle.wire_output.proofs.RoomLaws.{room-ok, wrote-ok}
use Rattle.messages_inventory_write.proofs.InventoryWriteLaws.{ids_parts, length_parts}
use Rattle.messages_inventory_write.proofs.put_body.Goals as goal

pub unwrap-rows-requires : goal.unwrap-rows-requires
unwrap-rows-requires c =
    room-ok _ _ _ _ c.write_vlq.ensures.value (simp length-set (omega (arith, c.requires.buffer_in_bounds, length_parts c.args.modifier_type c.args.ids.now c.args.buffer.now)))

pub put_rows-requires-clause-buffer_in_bounds : goal.put_rows-requires-clause-buffer_in_bounds
put_rows-requires-clause-buffer_in_bounds c =
    let w = wrote-ok _ _ _ _ c.write_vlq.ensures.value c.write_vlq.ensures.out_after c.unwrap-rows.ensures in
    omega (arith, c.requires.buffer_in_bounds, length_parts c.args.modifier_type c.args.ids.now c.args.buffer.now, w.end, wrote_length w, length-set c.args.out.now c.args.at c.args.modifier_type)

pub returns : goal.returns
returns c =
    let w = wrote-ok _ _ _ _ c.write_vlq.ensures.value c.write_vlq.ensures.out_after c.unwrap-rows.ensures in
    rw (ids_parts c.args.modifier_type c.args.ids.now c.args.buffer.now)
    (wrote_then (wrote_byte _ _ _) (wrote_then w c.put_rows.ensures))
