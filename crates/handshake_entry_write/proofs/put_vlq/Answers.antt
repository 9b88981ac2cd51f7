-- `handshake_entry_write::put_vlq` meets its contract: one byte was stored, or the writer, which has room, was not
-- refused.
use Rattle.std.proofs.Common.{arith, ap, length}
use Rattle.wire.proofs.OutputLaws.{wrote_byte}
use Rattle.wire_output.proofs.RoomLaws.{room-ok, wrote-ok}
use Rattle.vlq.proofs.VlqLaws.{vlq-last}
use Rattle.handshake_entry_write.proofs.put_vlq.Goals as goal

pub bounds-out-at : goal.bounds-out-at
bounds-out-at c = omega (arith, c.requires, ap length (vlq-last c.args.value c.if-value-lt128.true))

pub returns-then-value-lt128 : goal.returns-then-value-lt128
returns-then-value-lt128 c = rw (vlq-last c.args.value c.if-value-lt128.true) (wrote_byte c.args.out.now c.args.at c.args.value)

pub unwrap-requires : goal.unwrap-requires
unwrap-requires c = room-ok _ _ _ _ c.write_vlq.ensures.value c.requires

pub returns : goal.returns
returns c = wrote-ok _ _ _ _ c.write_vlq.ensures.value c.write_vlq.ensures.out_after c.unwrap.ensures
