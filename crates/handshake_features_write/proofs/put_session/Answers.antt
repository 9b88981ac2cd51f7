-- `handshake_features_write::put_session` meets its contract: id, length, the magic, the VLQ.
use Rattle.std.proofs.Common.{arith, ◌≡◌, ◌∙◌, ◌-◌, length, rules}
use Rattle.wire.proofs.OutputLaws.{wrote_then, wrote_length}
use Rattle.wire_output.proofs.RoomLaws.{room-ok, wrote-ok}
use Rattle.vlq_zigzag.specs.Zigzag.{zigzag_encode}
use Rattle.handshake.specs.Value.{feature_bytes}
use Rattle.handshake_features_write.specs.Features.{session_feature_of}
use Rattle.handshake_features_write.specs.FeaturesLaws.{length-magic, length-session, session_parts}
use Rattle.handshake_features_write.proofs.put_session.Goals as goal

pub overflow_sub-head : goal.overflow_sub-head
overflow_sub-head c =
    let e : c.zigzag_encode_i64-id.result ≡ zigzag_encode c.args.session = c.zigzag_encode_i64-id.ensures ∙ search rules in
    let n : c.session_len.result ≡ length (feature_bytes (session_feature_of c.args.network c.args.session)) = c.session_len.ensures.0 c.args.network ∙ search rules in
    omega (arith, n, length-session c.args.network c.args.session e (omega arith))

pub unwrap-middle-requires : goal.unwrap-middle-requires
unwrap-middle-requires c =
    let e : c.zigzag_encode_i64-id.result ≡ zigzag_encode c.args.session = c.zigzag_encode_i64-id.ensures ∙ search rules in
    room-ok _ _ _ _ c.write_part.ensures.value (omega (arith, length-session c.args.network c.args.session e (omega arith)))

pub unwrap-end-requires : goal.unwrap-end-requires
unwrap-end-requires c =
    let e : c.zigzag_encode_i64-id.result ≡ zigzag_encode c.args.session = c.zigzag_encode_i64-id.ensures ∙ search rules in
    let u = wrote-ok _ _ _ _ c.write_part.ensures.value c.write_part.ensures.out_after c.unwrap-middle.ensures in
    let four = rw (← c.magic.ensures) at (length-magic c.args.network) in
    room-ok _ _ _ _ c.write_part-2.ensures.value
    (omega (arith, length-session c.args.network c.args.session e (omega arith), four, u.end, wrote_length u))

pub unwrap-requires : goal.unwrap-requires
unwrap-requires c =
    let e : c.zigzag_encode_i64-id.result ≡ zigzag_encode c.args.session = c.zigzag_encode_i64-id.ensures ∙ search rules in
    let u = wrote-ok _ _ _ _ c.write_part.ensures.value c.write_part.ensures.out_after c.unwrap-middle.ensures in
    let w = wrote-ok _ _ _ _ c.write_part-2.ensures.value c.write_part-2.ensures.out_after c.unwrap-end.ensures in
    let four = rw (← c.magic.ensures) at (length-magic c.args.network) in
    room-ok _ _ _ _ c.write_vlq.ensures.value
    (omega (arith, length-session c.args.network c.args.session e (omega arith), four, u.end, w.end, wrote_length u, wrote_length w))

pub returns : goal.returns
returns c =
    let e : c.zigzag_encode_i64-id.result ≡ zigzag_encode c.args.session = c.zigzag_encode_i64-id.ensures ∙ search rules in
    let u = wrote-ok _ _ _ _ c.write_part.ensures.value c.write_part.ensures.out_after c.unwrap-middle.ensures in
    let w = wrote-ok _ _ _ _ c.write_part-2.ensures.value c.write_part-2.ensures.out_after c.unwrap-end.ensures in
    let v = wrote-ok _ _ _ _ c.write_vlq.ensures.value c.write_vlq.ensures.out_after c.unwrap.ensures in
    let size = length-session c.args.network c.args.session e (omega arith) in
    let n : c.session_len.result ≡ length (feature_bytes (session_feature_of c.args.network c.args.session)) = c.session_len.ensures.0 c.args.network ∙ search rules in
    rw (session_parts c.args.network c.args.session e (omega arith) {n = c.session_len.result - 2} (omega (arith, n, size)))
    (wrote_then u (wrote_then (rw c.magic.ensures at w) v))
