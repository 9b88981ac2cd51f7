-- `frame_write::put_frame` meets its contract: the body was hashed where it stands, and all before it was stored.
use Rattle.std.proofs.lemmas.Grind.{common_steps}
use Rattle.wire.proofs.OutputLaws.{wrote_length}
use Prim.Native.Nat.{◌+◌, ◌-◌}
use native.Mathlib.Omega.{arith}
use mathlib.Core.Path.{◌≡◌}
use Rattle.wire_output.proofs.RoomLaws.{room-ok, wrote-ok}
use Rattle.frame_write.specs.FrameWriteLaws.{wrote_before, wrote_empty, frame_lengths}
use Rattle.frame_write.proofs.put_frame.Goals as goal

pub returns-then-n-eq0 : goal.returns-then-n-eq0
returns-then-n-eq0 c = wrote_empty c.args.network c.args.code c.args.out.now c.args.at c.args.n c.if-n-eq0.true c.put_head.ensures

pub unwrap-requires : goal.unwrap-requires
unwrap-requires c =
    let head = c.put_head-end.ensures in
    room-ok _ _ _ _ c.write_part.ensures.value (grind (arith, common_steps, frame_lengths, head.end, wrote_length head))

pub overflow_add-result : goal.overflow_add-result
overflow_add-result c =
    let hash = wrote-ok _ _ _ _ c.write_part.ensures.value c.write_part.ensures.out_after c.unwrap.ensures in
    grind (arith, common_steps, frame_lengths, c.put_head-end.ensures.end, hash.end, wrote_length hash)

pub returns : goal.returns
returns c =
    let hash = wrote-ok _ _ _ _ c.write_part.ensures.value c.write_part.ensures.out_after c.unwrap.ensures in
    let z : c.args.at + 13 + c.args.n - (c.args.at + 13) ≡ c.args.n = omega arith in
    wrote_before c.args.network c.args.code c.args.out.now c.args.at c.args.n (omega arith) (omega arith) (rw z at c.check-check.ensures)
    c.put_head-end.ensures hash
