-- `frame_write::put_body` meets its contract: the body was stored where it stands in the frame, and then the frame
-- around it.
use Rattle.std.proofs.Common.{◌≡◌, ◌+◌, refl, arith}
use Rattle.std.proofs.lemmas.Grind.{common_steps}
use Rattle.wire.specs.Output.{put}
use Rattle.wire_output.proofs.RoomLaws.{room-ok, wrote-ok}
use Rattle.frame_write.specs.FrameWriteLaws.{wrote_around, frame_lengths}
use Rattle.frame_write.proofs.put_body.Goals as goal
use Rattle.frame_write.proofs.put_body.Goals.{then-not-is_empty, else-not-is_empty}

pub unwrap-requires : goal.unwrap-requires
unwrap-requires c =
    room-ok _ _ _ _ c.write_part.ensures.value (grind (arith, common_steps, frame_lengths))

pub returns : goal.returns
unfolding put
returns c =
    let stored : c.if-not-is_empty.out ≡ put c.args.out.now (c.args.at + 13) c.args.body.now =
    elim c.if-not-is_empty.branch [
      | then-not-is_empty w ↦ rw w.out-is (wrote-ok _ _ _ _ w.write_part.ensures.value w.write_part.ensures.out_after w.unwrap.ensures).bytes
      | else-not-is_empty w ↦ grind (arith, common_steps)
    ] in
    wrote_around c.args.network c.args.code c.args.out.now c.args.at c.args.body.now c.requires.body_in_bounds
    (record { end = refl; bytes = stored }) c.put_frame.ensures
