-- `messages_response_write::put_body` meets its contract: the type byte was stored, the count, and then the payloads.
use Rattle.std.proofs.Common.{arith, length-set}
use Rattle.wire.proofs.OutputLaws.{wrote_byte, wrote_then, wrote_length}
use Rattle.wire_output.proofs.RoomLaws.{room-ok, wrote-ok}
use Rattle.messages_response_write.proofs.ResponseLaws.{response_parts, length_parts}
use Rattle.messages_response_write.proofs.put_body.Goals as goal

pub bounds-out-at : goal.bounds-out-at
bounds-out-at c = omega (arith, length_parts c.args.modifier_type c.args.payloads.now c.args.buffer.now)

pub unwrap-end-requires : goal.unwrap-end-requires
unwrap-end-requires c =
    room-ok _ _ _ _ c.write_vlq.ensures.value (simp length-set (omega (arith, c.requires.buffer_in_bounds, length_parts c.args.modifier_type c.args.payloads.now c.args.buffer.now)))

pub put_rows-requires : goal.put_rows-requires
put_rows-requires c =
    let w = wrote-ok _ _ _ _ c.write_vlq.ensures.value c.write_vlq.ensures.out_after c.unwrap-end.ensures in
    let parts = length_parts c.args.modifier_type c.args.payloads.now c.args.buffer.now in
    record { payloads_value = c.requires.payloads_value; buffer_in_bounds = omega (arith, parts, c.requires.buffer_in_bounds, w.end, simp length-set at (wrote_length w)) }

pub returns : goal.returns
returns c =
    let w = wrote-ok _ _ _ _ c.write_vlq.ensures.value c.write_vlq.ensures.out_after c.unwrap-end.ensures in
    rw (response_parts c.args.modifier_type c.args.payloads.now c.args.buffer.now)
    (wrote_then (wrote_byte c.args.out.now c.args.at c.args.modifier_type) (wrote_then w c.put_rows.ensures))
