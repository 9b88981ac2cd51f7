-- `messages_response_read::read_payload` meets its contract: the definition, rewritten with what each of its readers
-- answered and with the test.
use Prim.Native.Nat.{◌+◌}
use native.Mathlib.Omega.{arith}
use mathlib.Core.Path.{sym}
use lib.ListN.{length}
use borrow.Author.Tests.{le-leb, lt-leb}
use Rattle.std.proofs.lemmas.Result.{err_from_is_err_and}
use Rattle.wire.specs.Reader.{part_of}
use Rattle.wire.proofs.ReaderLaws.{map-got, map-refused, map-refusal}
use Rattle.messages.specs.Message.{payload_after}
use Rattle.messages_response_read.proofs.AnswerLaws.{payload-got}
use Rattle.messages_response_read.proofs.read_payload.Goals as goal

pub returns-then-body-sum : goal.returns-then-body-sum
unfolding payload_after
returns-then-body-sum c =
    let e = map-got part_of (sym c.in_ok-id.ensures) in
    let over = lt-leb (c.args.total + c.in_ok-n.n) (length c.args.body.now) (omega arith) in
    rw (e.1, sym c.in_ok-n.ensures, over, map-refusal)

pub returns : goal.returns
returns c =
    let e1 = map-got part_of (sym c.in_ok-id.ensures) in
    let e2 = map-got part_of (sym c.in_ok-bytes.ensures) in
    payload-got c.args.body.now c.args.total c.args.at.0 e1.1 e1.2 (sym c.in_ok-n.ensures) (omega arith) (omega arith) e2.1 e2.2

pub returns-in_err-bytes : goal.returns-in_err-bytes
unfolding payload_after
returns-in_err-bytes c =
    let e1 = map-got part_of (sym c.in_ok-id.ensures) in
    let e2 = map-refused part_of (sym c.in_err-bytes.ensures) in
    let p = err_from_is_err_and c.from_residual-in_err-bytes.result c.from_residual-in_err-bytes.ensures.1 in
    rw (p.1, p.2, e1.1, sym c.in_ok-n.ensures, le-leb (c.args.total + c.in_ok-n.n) (length c.args.body.now) (omega arith), e2, map-refusal)

pub returns-in_err-n : goal.returns-in_err-n
unfolding payload_after
returns-in_err-n c =
    let e1 = map-got part_of (sym c.in_ok-id.ensures) in
    let p = err_from_is_err_and c.from_residual-in_err-n.result c.from_residual-in_err-n.ensures.1 in
    rw (p.1, p.2, e1.1, sym c.in_err-n.ensures, map-refusal)

pub returns-in_err-id : goal.returns-in_err-id
unfolding payload_after
returns-in_err-id c =
    let e = map-refused part_of (sym c.in_err-id.ensures) in
    let p = err_from_is_err_and c.from_residual.result c.from_residual.ensures.1 in
    rw (p.1, p.2, e, map-refusal)
