-- `handshake_features_write::session_len` meets its contract: id and length, the magic, the VLQ.
use native.Mathlib.Omega.{arith}
use mathlib.Core.Path.{ap, ◌∙◌}
use mir.Facts.{to_z-of_z}
use Rattle.vlq.proofs.VlqLaws.{vlq_ten}
use Rattle.vlq_zigzag.specs.Zigzag.{zigzag_encode}
use Rattle.handshake_features_write.specs.FeaturesLaws.{length-session}
use Rattle.handshake_features_write.proofs.session_len.Goals as goal

pub overflow_add-result : goal.overflow_add-result
overflow_add-result c = omega (arith, c.vlq_len.ensures, vlq_ten c.zigzag_encode_i64.result (omega arith))

pub returns : goal.returns
returns c =
    let e = c.zigzag_encode_i64.ensures ∙ ap zigzag_encode (to_z-of_z c.ranges.session) in (
      λ network. omega (arith, c.vlq_len.ensures, length-session network c.args.session e (omega arith)),
      omega (arith, c.vlq_len.ensures, vlq_ten c.zigzag_encode_i64.result (omega arith)),
    )
