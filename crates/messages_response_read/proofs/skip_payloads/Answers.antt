-- `messages_response_read::skip_payloads` meets its contract. The loop's invariant and what follows from it stand in
-- `LoopLaws` of wire and `PayloadsLoop`.
use Prim.Native.Nat.{ℕ}
use mathlib.Core.Path.{sym, ap}
use native.Mathlib.Omega.{arith}
use lib.ListN.{length}
use Rattle.std.proofs.lemmas.Result.{err_from_is_err_and}
use Rattle.wire.proofs.ReaderLaws.{map-got, map-refused}
use Rattle.messages.specs.Message.{payload, total}
use Rattle.messages_response_read.specs.declared.Payload.{Payload}
use Rattle.messages_response_read.specs.Answers.{payload_sum}
use Rattle.wire.proofs.LoopLaws.{list-start, list-end}
use Rattle.messages_response_read.proofs.PayloadsLoop.{payloads_again, payloads-refused}
use Rattle.messages_response_read.proofs.skip_payloads.Goals as goal

pub loop-init : goal.loop-init
unfolding total
loop-init c = list-start (payload (length c.args.body.now)) total _ _ _

pub loop-preserved : goal.loop-preserved
loop-preserved c =
    let e = map-got (payload_sum c.loop.total) (sym c.in_ok-sum.ensures) in
    payloads_again _ c.loop.invariant (omega arith) e.1 (ap (λ (x : Payload × ℕ). x.1) e.2)

pub returns-in_err-sum : goal.returns-in_err-sum
returns-in_err-sum c =
    let e = map-refused (payload_sum c.loop.total) (sym c.in_err-sum.ensures) in
    let p = err_from_is_err_and c.from_residual.result c.from_residual.ensures.1 in
    rw (p.1, p.2) (payloads-refused _ c.loop.invariant (omega arith) e)

pub returns : goal.returns
returns c = list-end c.loop.invariant (omega arith)
