-- `messages_response_write::payloads_inside` meets its contract: the rows before k are inside the buffer.
use native.Mathlib.Omega.{arith}
use mathlib.Core.Path.{sym, ◌∙◌}
use Rattle.handshake.proofs.RowsLaws.{passed_start, passed-next, passed-not, passed-end}
use Rattle.messages_response_write.proofs.payloads_inside.Goals as goal

pub loop-k-init : goal.loop-k-init
loop-k-init c = passed_start _ _ _

pub returns-then-not-payload_inside : goal.returns-then-not-payload_inside
returns-then-not-payload_inside c = passed-not c.loop-k.invariant (omega arith) (sym (rw c.payload_at.ensures at c.payload_inside.ensures) ∙ c.if-not-payload_inside.true)

pub loop-k-preserved : goal.loop-k-preserved
loop-k-preserved c = passed-next c.loop-k.invariant (omega arith) (sym (rw c.payload_at.ensures at c.payload_inside.ensures) ∙ c.if-not-payload_inside.false)

pub returns : goal.returns
returns c = passed-end c.loop-k.invariant (omega arith)
