-- `messages_response_write::put_response` meets its contract: the body was stored where it stands in the frame, and the
-- frame was closed around it.
use Prim.Native.Nat.{◌+◌, ◌-◌}
use native.Mathlib.Omega.{arith}
use mathlib.Core.Path.{◌≡◌}
use lib.ListN.{length}
use Rattle.wire.proofs.OutputLaws.{wrote_length}
use Rattle.frame_write.specs.FrameWriteLaws.{frame_length-body, closed, closed-ok}
use Rattle.messages_response_write.specs.Asked.{response_bytes}
use Rattle.messages_response_write.proofs.ResponseLaws.{length_parts}
use Rattle.messages_response_write.proofs.put_response.Goals as goal

pub put_body-end-requires : goal.put_body-end-requires
put_body-end-requires c =
    let n = length (response_bytes c.args.modifier_type c.args.payloads.now c.args.buffer.now) in
    record {
      payloads_value = c.requires.payloads_value;
      buffer_in_bounds = omega (arith, c.requires.buffer_in_bounds, frame_length-body n (omega (arith, length_parts c.args.modifier_type c.args.payloads.now c.args.buffer.now)));
    }

pub overflow_sub-end : goal.overflow_sub-end
overflow_sub-end c = omega (arith, c.put_body-end.ensures.end)

pub unwrap-requires : goal.unwrap-requires
unwrap-requires c =
    let body = response_bytes c.args.modifier_type c.args.payloads.now c.args.buffer.now in
    let z : c.put_body-end.result - (c.args.at + 13) ≡ length body = omega (arith, c.put_body-end.ensures.end) in
    closed-ok _ _ _ _ c.close_frame.ensures.value (omega (arith, z, c.requires.buffer_len_bound)) (rw z (omega (arith, c.requires.buffer_in_bounds, wrote_length c.put_body-end.ensures)))

pub returns : goal.returns
returns c =
    let body = response_bytes c.args.modifier_type c.args.payloads.now c.args.buffer.now in
    let z : c.put_body-end.result - (c.args.at + 13) ≡ length body = omega (arith, c.put_body-end.ensures.end) in
    closed c.args.network 33 c.args.out.now c.args.at body c.requires.buffer_in_bounds c.put_body-end.ensures c.requires.buffer_len_bound (rw z at c.close_frame.ensures.value) (rw z at c.close_frame.ensures.out_after)
