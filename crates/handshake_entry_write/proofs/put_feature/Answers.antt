-- `handshake_entry_write::put_feature` meets its contract: the id byte, the VLQ of the body's length and the body were stored.
use native.Mathlib.Omega.{arith}
use lib.ListN.{length-set}
use Rattle.wire.proofs.OutputLaws.{wrote_then, wrote_byte, wrote_length}
use Rattle.wire_output.proofs.RoomLaws.{room-ok, wrote-ok}
use Rattle.handshake.specs.Value.{feature_bytes}
use Rattle.handshake.specs.Tables.{feature_from_row}
use Rattle.handshake_entry_ask.specs.LengthLaws.{length-feature}
use Rattle.handshake_entry_write.specs.NumbersLaws.{id-byte}
use Rattle.handshake_entry_write.proofs.put_feature.Goals as goal

pub overflow_cast-out : goal.overflow_cast-out
overflow_cast-out c = omega (arith, id-byte c.args.f c.requires.f_value.0)

pub bounds-out-at : goal.bounds-out-at
bounds-out-at c =
    let size = length-feature c.args.buffer.now c.args.f in
    omega (arith, size)

pub put_vlq-a-requires : goal.put_vlq-a-requires
put_vlq-a-requires c =
    let size = length-feature c.args.buffer.now c.args.f in
    rw c.part_of-body.ensures (simp length-set (omega (arith, size)))

pub unwrap-requires : goal.unwrap-requires
unwrap-requires c =
    let size = length-feature c.args.buffer.now c.args.f in
    let w = rw c.part_of-body.ensures at c.put_vlq-a.ensures in
    room-ok _ _ _ _ c.write_part.ensures.value (rw c.part_of-body.ensures (omega (arith, size, w.end, simp length-set at (wrote_length w))))

pub returns : goal.returns
unfolding feature_bytes feature_from_row
returns c =
    let body = wrote-ok _ _ _ _ c.write_part.ensures.value c.write_part.ensures.out_after c.unwrap.ensures in
    wrote_then (wrote_byte c.args.out.now c.args.at c.args.f.id) (wrote_then (rw c.part_of-body.ensures at c.put_vlq-a.ensures) (rw c.part_of-body.ensures at body))
