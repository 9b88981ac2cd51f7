-- `handshake_features_write::put_nipopow` meets its contract: one arm for each mode.
use Rattle.std.proofs.Common.{arith}
use Rattle.wire_output.proofs.RoomLaws.{room-ok, wrote-ok}
use Rattle.handshake.specs.Writes.{nipopow}
use Rattle.handshake_features_write.proofs.put_nipopow.Goals as goal

pub unwrap-requires : goal.unwrap-requires
unfolding nipopow
unwrap-requires c = room-ok _ _ _ _ c.write_part.ensures.value (omega (arith, rw c.in-Full.is at c.requires))

pub unwrap-requires-in-Light : goal.unwrap-requires-in-Light
unfolding nipopow
unwrap-requires-in-Light c = room-ok _ _ _ _ c.write_part-in-Light.ensures.value (omega (arith, rw c.in-Light.is at c.requires))

pub returns-in-Full : goal.returns-in-Full
unfolding nipopow
returns-in-Full c = rw c.in-Full.is (wrote-ok _ _ _ _ c.write_part.ensures.value c.write_part.ensures.out_after c.unwrap.ensures)

pub returns-in-Light : goal.returns-in-Light
unfolding nipopow
returns-in-Light c =
    rw c.in-Light.is (wrote-ok _ _ _ _ c.write_part-in-Light.ensures.value c.write_part-in-Light.ensures.out_after c.unwrap-in-Light.ensures)
