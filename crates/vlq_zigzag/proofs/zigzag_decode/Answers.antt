-- `vlq_zigzag::zigzag_decode` decodes as zigzag_decode does: the decoding of a u32 fits an i32.
use mathlib.Core.Path.{sym, ◌∙◌, subst}
use mir.Syntax.{w32, w64}
use mir.Val.{SFits}
use Rattle.vlq_zigzag.proofs.ZigzagLaws.{decode-fits}
use Rattle.vlq_zigzag.proofs.Casts.{narrows, narrowed}
use Rattle.vlq_zigzag.proofs.zigzag_decode.Goals as goal

pub overflow_cast-result : goal.overflow_cast-result
overflow_cast-result c =
    narrows w32 w64 tt _ (subst (SFits w32) (sym c.zigzag_decode_i64.ensures) (decode-fits w32 _ c.ranges.value))

pub returns : goal.returns
returns c =
    narrowed w32 w64 tt _ (subst (SFits w32) (sym c.zigzag_decode_i64.ensures) (decode-fits w32 _ c.ranges.value)) ∙ c.zigzag_decode_i64.ensures
