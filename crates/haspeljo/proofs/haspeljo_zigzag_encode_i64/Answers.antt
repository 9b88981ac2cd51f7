-- `haspeljo::haspeljo_zigzag_encode_i64` meets its contract: what is passed on is the number itself.
use mathlib.Core.Path.{ap, ◌∙◌}
use mir.Facts.{to_z-of_z}
use Rattle.vlq_zigzag.specs.Zigzag.{zigzag_encode}
use Rattle.haspeljo.proofs.haspeljo_zigzag_encode_i64.Goals as goal

pub returns : goal.returns
returns c = c.zigzag_encode_i64.ensures ∙ ap zigzag_encode (to_z-of_z c.ranges.value)
