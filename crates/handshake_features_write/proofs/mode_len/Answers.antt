-- `handshake_features_write::mode_len` meets its contract: id and length, two bytes, the flag and what
-- it carries, the VLQ.
use Rattle.std.proofs.Common.{arith, ap, ◌∙◌, length, rules, ◌≡◌}
use Rattle.vlq.proofs.VlqLaws.{vlq_ten}
use Rattle.vlq_zigzag.specs.Zigzag.{zigzag_encode}
use Rattle.handshake.specs.Writes.{nipopow}
use Rattle.handshake_features_write.specs.FeaturesLaws.{length-mode}
use Rattle.handshake_features_write.specs.declared.Mode.{Mode}
use Rattle.handshake_features_write.proofs.mode_len.Goals as goal

pub overflow_add-result : goal.overflow_add-result
overflow_add-result c = omega (arith, c.vlq_len-n.ensures, vlq_ten c.from.result (omega arith))

pub overflow_add-result-in-Light : goal.overflow_add-result-in-Light
overflow_add-result-in-Light c = omega (arith, c.vlq_len-n.ensures, vlq_ten c.from.result (omega arith))

pub returns-in-Full : goal.returns-in-Full
unfolding nipopow
returns-in-Full c =
    let e : c.from.result ≡ zigzag_encode c.args.mode.blocks_to_keep = c.from.ensures ∙ search rules in
    let n = ap (λ m. length (nipopow m)) c.in-Full.is in (
      omega (arith, n, c.vlq_len-n.ensures, length-mode c.args.mode e (omega arith)),
      omega (arith, c.vlq_len-n.ensures, vlq_ten c.from.result (omega arith)),
      λ t v.
          let m : Mode = record { proxy = c.args.mode.proxy; state_type_id = t; verifying = v; blocks_to_keep = c.args.mode.blocks_to_keep } in
          omega (arith, n, c.vlq_len-n.ensures, length-mode m e (omega arith)),
    )

pub returns-in-Light : goal.returns-in-Light
unfolding nipopow
returns-in-Light c =
    let e : c.from.result ≡ zigzag_encode c.args.mode.blocks_to_keep = c.from.ensures ∙ search rules in
    let n = ap (λ m. length (nipopow m)) c.in-Light.is in (
      omega (arith, n, c.vlq_len-n.ensures, length-mode c.args.mode e (omega arith)),
      omega (arith, c.vlq_len-n.ensures, vlq_ten c.from.result (omega arith)),
      λ t v.
          let m : Mode = record { proxy = c.args.mode.proxy; state_type_id = t; verifying = v; blocks_to_keep = c.args.mode.blocks_to_keep } in
          omega (arith, n, c.vlq_len-n.ensures, length-mode m e (omega arith)),
    )
