-- `vlq_zigzag::zigzag_decode_i64` decodes as zigzag_decode does: the laws of `proofs/Widths.antt` on halves.
use mir.Syntax.{w64}
use Rattle.vlq_zigzag.proofs.Widths.{half, minus_fits, even, odd}
use Rattle.vlq_zigzag.proofs.zigzag_decode_i64.Goals as goal

pub overflow_cast-half : goal.overflow_cast-half
overflow_cast-half c = half w64 _ c.ranges.value

pub overflow_sub-result : goal.overflow_sub-result
overflow_sub-result c = minus_fits w64 _ c.ranges.value

pub returns-then-value-eq0 : goal.returns-then-value-eq0
returns-then-value-eq0 c = even w64 _ c.ranges.value c.if-value-eq0.true

pub returns-else-value-eq0 : goal.returns-else-value-eq0
returns-else-value-eq0 c = odd w64 _ c.ranges.value c.if-value-eq0.false
