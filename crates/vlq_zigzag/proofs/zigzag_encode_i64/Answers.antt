-- `vlq_zigzag::zigzag_encode_i64` encodes as zigzag_encode does: one law of `proofs/Widths.antt` for each sign.
use mir.Syntax.{w64}
use borrow.Author.Rules.{rules}
use Rattle.vlq_zigzag.proofs.Widths.{below, above}
use Rattle.vlq_zigzag.proofs.zigzag_encode_i64.Goals as goal

pub overflow_sub-result : goal.overflow_sub-result
overflow_sub-result c = (below w64 _ c.ranges.value (search rules)).sub

pub overflow_cast-result : goal.overflow_cast-result
overflow_cast-result c = (below w64 _ c.ranges.value (search rules)).cast

pub overflow_mul-result : goal.overflow_mul-result
overflow_mul-result c = (below w64 _ c.ranges.value (search rules)).mul

pub overflow_add-result : goal.overflow_add-result
overflow_add-result c = (below w64 _ c.ranges.value (search rules)).add

pub overflow_cast-result-else-value-lt0 : goal.overflow_cast-result-else-value-lt0
overflow_cast-result-else-value-lt0 c = (above w64 _ c.ranges.value (search rules)).cast

pub overflow_mul-result-else-value-lt0 : goal.overflow_mul-result-else-value-lt0
overflow_mul-result-else-value-lt0 c = (above w64 _ c.ranges.value (search rules)).mul

pub returns-then-value-lt0 : goal.returns-then-value-lt0
returns-then-value-lt0 c = (below w64 _ c.ranges.value (search rules)).result

pub returns-else-value-lt0 : goal.returns-else-value-lt0
returns-else-value-lt0 c = (above w64 _ c.ranges.value (search rules)).result
