-- `messages_inventory_write::put_ids` meets its contract: the body was stored where it stands in the frame, and the
-- frame was closed around it.
use Prim.Native.Nat.{◌+◌, ◌-◌}
use native.Mathlib.Omega.{arith}
use mathlib.Core.Path.{◌≡◌}
use lib.ListN.{length}
use Rattle.wire.proofs.OutputLaws.{wrote_length}
use Rattle.frame_write.specs.FrameWriteLaws.{closed, closed-ok}
use Rattle.messages.specs.Value.{ids_bytes}
use Rattle.messages.specs.Writes.{ids_of}
use Rattle.messages_inventory_write.proofs.put_ids.Goals as goal

pub unwrap-requires : goal.unwrap-requires
unwrap-requires c =
    let body = ids_bytes c.args.modifier_type (ids_of c.args.ids.now c.args.buffer.now) in
    let z : c.put_body-end.result - (c.args.at + 13) ≡ length body = omega (arith, c.put_body-end.ensures.end) in
    closed-ok _ _ _ _ c.close_frame.ensures.value (omega (arith, z, c.requires.buffer_len_bound)) (rw z (omega (arith, c.requires.buffer_in_bounds, wrote_length c.put_body-end.ensures)))

pub returns : goal.returns
returns c =
    let body = ids_bytes c.args.modifier_type (ids_of c.args.ids.now c.args.buffer.now) in
    let z : c.put_body-end.result - (c.args.at + 13) ≡ length body = omega (arith, c.put_body-end.ensures.end) in
    closed c.args.network c.args.code c.args.out.now c.args.at body c.requires.buffer_in_bounds c.put_body-end.ensures c.requires.buffer_len_bound (rw z at c.close_frame.ensures.value) (rw z at c.close_frame.ensures.out_after)
