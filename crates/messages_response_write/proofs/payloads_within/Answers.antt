-- `messages_response_write::payloads_within` meets its contract: the lengths of the rows before k are within the limit.
use native.Mathlib.Omega.{arith}
use mathlib.Core.Path.{sym, ap, ◌∙◌}
use borrow.Author.Tests.{le-leb, lt-leb}
use Rattle.vlq.specs.Vlq.{limit}
use Rattle.handshake.proofs.RowsLaws.{passed_start, passed-next, passed-not, passed-end}
use Rattle.messages_response_write.specs.Asked.{row_within}
use Rattle.messages_response_write.proofs.payloads_within.Goals as goal

pub loop-k-init : goal.loop-k-init
loop-k-init c = passed_start _ _ _

pub returns-then-payload_at-gt-MAX_BODY_SIZE : goal.returns-then-payload_at-gt-MAX_BODY_SIZE
unfolding row_within
returns-then-payload_at-gt-MAX_BODY_SIZE c = passed-not c.loop-k.invariant (omega arith) (ap row_within (sym c.payload_at.ensures) ∙ lt-leb c.payload_at.result.len limit (omega arith))

pub loop-k-preserved : goal.loop-k-preserved
unfolding row_within
loop-k-preserved c = passed-next c.loop-k.invariant (omega arith) (ap row_within (sym c.payload_at.ensures) ∙ le-leb c.payload_at.result.len limit (omega arith))

pub returns : goal.returns
returns c = passed-end c.loop-k.invariant (omega arith)
