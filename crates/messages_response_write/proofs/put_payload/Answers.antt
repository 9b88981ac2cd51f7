-- `messages_response_write::put_payload` meets its contract: the id was stored, the length, and then the bytes.
use Rattle.std.proofs.Common.{ℕ, arith, ◌+◌, ◌-◌, ◌≡◌}
use Rattle.wire.proofs.OutputLaws.{wrote_then, wrote_length}
use Rattle.wire.proofs.ReaderLaws.{length_part}
use Rattle.wire_output.proofs.RoomLaws.{room-ok, wrote-ok}
use Rattle.messages_response_write.specs.Asked.{row_length}
use Rattle.messages_response_write.proofs.ResponseLaws.{id-inside, bytes_inside, payload_parts, payload_long}
use Rattle.messages_response_write.proofs.put_payload.Goals as goal

same : (from n : ℕ) → from + n - from ≡ n
same from n = omega arith

pub slice_bounds-write_part-end : goal.slice_bounds-write_part-end
slice_bounds-write_part-end c = omega (arith, id-inside c.args.buffer.now c.args.row c.requires.row_value)

pub slice_bounds-write_part-end-2 : goal.slice_bounds-write_part-end-2
slice_bounds-write_part-end-2 c = omega (arith, bytes_inside c.args.buffer.now c.args.row c.requires.row_value)

pub unwrap-a-requires : goal.unwrap-a-requires
unfolding row_length
unwrap-a-requires c =
    let row = c.args.row in
    let h = c.requires.row_value in
    room-ok _ _ _ _ c.write_part.ensures.value
    (rw (same row.id 32, length_part 32 c.args.buffer.now row.id (id-inside c.args.buffer.now row h)) (omega (arith, c.requires.row_in_bounds, payload_long c.args.buffer.now row h)))

pub unwrap-b-requires : goal.unwrap-b-requires
unfolding row_length
unwrap-b-requires c =
    let row = c.args.row in
    let h = c.requires.row_value in
    let w = rw (same row.id 32) at (wrote-ok _ _ _ _ c.write_part.ensures.value c.write_part.ensures.out_after c.unwrap-a.ensures) in
    let n = length_part 32 c.args.buffer.now row.id (id-inside c.args.buffer.now row h) in
    room-ok _ _ _ _ c.write_vlq.ensures.value (omega (arith, w.end, wrote_length w, n, c.requires.row_in_bounds, payload_long c.args.buffer.now row h))

pub unwrap-requires : goal.unwrap-requires
unfolding row_length
unwrap-requires c =
    let row = c.args.row in
    let h = c.requires.row_value in
    let w = rw (same row.id 32) at (wrote-ok _ _ _ _ c.write_part.ensures.value c.write_part.ensures.out_after c.unwrap-a.ensures) in
    let v = wrote-ok _ _ _ _ c.write_vlq.ensures.value c.write_vlq.ensures.out_after c.unwrap-b.ensures in
    let n = length_part 32 c.args.buffer.now row.id (id-inside c.args.buffer.now row h) in
    let m = length_part row.len c.args.buffer.now row.at (bytes_inside c.args.buffer.now row h) in
    room-ok _ _ _ _ c.write_part-2.ensures.value
    (rw (same row.at row.len, m) (omega (arith, w.end, wrote_length w, v.end, wrote_length v, n, c.requires.row_in_bounds, payload_long c.args.buffer.now row h)))

pub returns : goal.returns
returns c =
    let row = c.args.row in
    let w = rw (same row.id 32) at (wrote-ok _ _ _ _ c.write_part.ensures.value c.write_part.ensures.out_after c.unwrap-a.ensures) in
    let v = wrote-ok _ _ _ _ c.write_vlq.ensures.value c.write_vlq.ensures.out_after c.unwrap-b.ensures in
    let x = rw (same row.at row.len) at (wrote-ok _ _ _ _ c.write_part-2.ensures.value c.write_part-2.ensures.out_after c.unwrap.ensures) in
    rw (payload_parts c.args.buffer.now row c.requires.row_value) (wrote_then w (wrote_then v x))
