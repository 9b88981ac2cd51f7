-- `messages_response_write::rows_len` meets its contract: the lengths of the rows before k were added.
use native.Mathlib.Omega.{arith}
use mathlib.Core.Path.{ap, ◌∙◌}
use Rattle.messages_response_write.specs.Asked.{row_within}
use Rattle.messages_response_write.specs.Asked.{row_length}
use Rattle.messages_response_write.proofs.LengthLoop.{adding_start, adding_within, adding_turn, adding_end}
use Rattle.messages_response_write.proofs.rows_len.Goals as goal

pub loop-k-init : goal.loop-k-init
loop-k-init c = adding_start _ _ c.requires.payload_row_size_len_bound c.requires.payloads_value

pub row_len-size-requires : goal.row_len-size-requires
row_len-size-requires c = ap row_within c.payload_at.ensures ∙ adding_within c.loop-k.invariant (omega arith)

pub overflow_add-size : goal.overflow_add-size
overflow_add-size c = omega (arith, c.loop-k.invariant.below, c.loop-k.invariant.few, c.loop-k.invariant.most, c.row_len-size.ensures.1)

pub loop-k-preserved : goal.loop-k-preserved
loop-k-preserved c = adding_turn c.loop-k.invariant (omega arith) (c.row_len-size.ensures.0 ∙ ap row_length c.payload_at.ensures) c.row_len-size.ensures.1

pub returns : goal.returns
returns c = adding_end c.loop-k.invariant (omega arith)
