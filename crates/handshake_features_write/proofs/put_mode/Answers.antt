-- `handshake_features_write::put_mode` meets its contract: id, length, state type and verifying, the flag and
-- what it carries, the VLQ.
use Rattle.std.proofs.Common.{arith, ◌≡◌, ◌∙◌, ◌-◌, rules, refl, Bool, true, false, cond}
use mir.Val.{bool_byte}
use Rattle.wire.proofs.OutputLaws.{wrote_then, wrote_length}
use Rattle.wire_output.proofs.RoomLaws.{room-ok, wrote-ok}
use Rattle.vlq_zigzag.specs.Zigzag.{zigzag_encode}
use Rattle.handshake_features_write.specs.FeaturesLaws.{length-mode, mode_parts}
use Rattle.handshake_features_write.proofs.put_mode.Goals as goal

pub overflow_sub-n : goal.overflow_sub-n
overflow_sub-n c =
    let e : c.from-kept.result ≡ zigzag_encode c.args.mode.blocks_to_keep = c.from-kept.ensures ∙ search rules in
    omega (arith, c.mode_len.ensures.0, length-mode c.args.mode e (omega arith))

pub unwrap-middle-requires : goal.unwrap-middle-requires
unwrap-middle-requires c =
    let e : c.from-kept.result ≡ zigzag_encode c.args.mode.blocks_to_keep = c.from-kept.ensures ∙ search rules in
    room-ok _ _ _ _ c.write_part.ensures.value (omega (arith, length-mode c.args.mode e (omega arith)))

pub put_nipopow-end-requires : goal.put_nipopow-end-requires
put_nipopow-end-requires c =
    let e : c.from-kept.result ≡ zigzag_encode c.args.mode.blocks_to_keep = c.from-kept.ensures ∙ search rules in
    let w = wrote-ok _ _ _ _ c.write_part.ensures.value c.write_part.ensures.out_after c.unwrap-middle.ensures in
    omega (arith, length-mode c.args.mode e (omega arith), w.end, wrote_length w)

pub unwrap-requires : goal.unwrap-requires
unwrap-requires c =
    let e : c.from-kept.result ≡ zigzag_encode c.args.mode.blocks_to_keep = c.from-kept.ensures ∙ search rules in
    let w = wrote-ok _ _ _ _ c.write_part.ensures.value c.write_part.ensures.out_after c.unwrap-middle.ensures in
    room-ok _ _ _ _ c.write_vlq.ensures.value
    (omega (arith, length-mode c.args.mode e (omega arith), w.end, wrote_length w, c.put_nipopow-end.ensures.end, wrote_length c.put_nipopow-end.ensures))

pub returns : goal.returns
returns c =
    let e : c.from-kept.result ≡ zigzag_encode c.args.mode.blocks_to_keep = c.from-kept.ensures ∙ search rules in
    let w = wrote-ok _ _ _ _ c.write_part.ensures.value c.write_part.ensures.out_after c.unwrap-middle.ensures in
    let v = wrote-ok _ _ _ _ c.write_vlq.ensures.value c.write_vlq.ensures.out_after c.unwrap.ensures in
    let size = length-mode c.args.mode e (omega arith) in
    rw (mode_parts c.args.mode e (omega arith) {n = c.mode_len.result - 2} {flag = c.from-flag.result} (omega (arith, c.mode_len.ensures.0, size)) (c.from-flag.ensures ∙ one c.args.mode.verifying))
    (wrote_then w (wrote_then c.put_nipopow-end.ensures v))
  where
    one : (b : Bool) → bool_byte b ≡ cond b 1 0
    one true = refl
    one false = refl
