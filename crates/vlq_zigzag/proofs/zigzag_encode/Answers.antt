-- `vlq_zigzag::zigzag_encode` encodes as zigzag_encode does: the i64 is the i32, and its encoding fits a u32.
use mathlib.Core.Path.{◌≡◌, sym, ap, ◌∙◌, subst}
use mir.Syntax.{w32, w64}
use mir.Val.{Fits}
use Rattle.vlq_zigzag.specs.Zigzag.{zigzag_encode}
use Rattle.vlq_zigzag.proofs.ZigzagLaws.{encode-fits}
use Rattle.vlq_zigzag.proofs.Casts.{widens, widened}
use Rattle.vlq_zigzag.proofs.zigzag_encode.Goals as goal

pub overflow_cast-value : goal.overflow_cast-value
overflow_cast-value c = widens w32 w64 tt _ c.ranges.value

pub overflow_cast-result : goal.overflow_cast-result
overflow_cast-result c =
    let e : c.zigzag_encode_i64.result ≡ zigzag_encode c.args.value = c.zigzag_encode_i64.ensures ∙ ap zigzag_encode (widened w32 w64 tt _ c.ranges.value) in
    subst (Fits w32) (sym e) (encode-fits w32 _ c.ranges.value)

pub returns : goal.returns
returns c = c.zigzag_encode_i64.ensures ∙ ap zigzag_encode (widened w32 w64 tt _ c.ranges.value)
