-- `messages_read::from_frame` meets its contract: the definition at the code of the arm, and what is given of the body's reading.
use mathlib.Core.Path.{sym}
use Rattle.std.proofs.lemmas.Result.{err_from_is_err_and}
use Rattle.wire.proofs.ReaderLaws.{map-value, map-refusal}
use Rattle.messages.specs.Message.{message}
use Rattle.messages_read.proofs.AnswerLaws.{peers_message, request_message, inv_message, response_message}
use Rattle.messages_read.proofs.from_frame.Goals as goal

pub returns-in_ok-peers-in-2 : goal.returns-in_ok-peers-in-2
unfolding message
returns-in_ok-peers-in-2 c = rw (c.in-2.is, peers_message c.args.network c.args.body.now c.args.cap, sym c.in_ok-peers-in-2.ensures, map-value)

pub returns-in_err-peers-in-2 : goal.returns-in_err-peers-in-2
unfolding message
returns-in_err-peers-in-2 c =
    let p = err_from_is_err_and c.from_residual.result c.from_residual.ensures.1 in
    rw (p.1, p.2, c.in-2.is, peers_message c.args.network c.args.body.now c.args.cap, sym c.in_err-peers-in-2.ensures, map-refusal)

pub returns-in_ok-ids-in-55 : goal.returns-in_ok-ids-in-55
unfolding message
returns-in_ok-ids-in-55 c = rw (c.in-55.is, inv_message c.args.network c.args.body.now, sym c.in_ok-ids-in-55.ensures, map-value)

pub returns-in_err-ids-in-55 : goal.returns-in_err-ids-in-55
unfolding message
returns-in_err-ids-in-55 c =
    let p = err_from_is_err_and c.from_residual-in_err-ids-in-55.result c.from_residual-in_err-ids-in-55.ensures.1 in
    rw (p.1, p.2, c.in-55.is, inv_message c.args.network c.args.body.now, sym c.in_err-ids-in-55.ensures, map-refusal)

pub returns-in_ok-ids-in-22 : goal.returns-in_ok-ids-in-22
unfolding message
returns-in_ok-ids-in-22 c = rw (c.in-22.is, request_message c.args.network c.args.body.now, sym c.in_ok-ids-in-22.ensures, map-value)

pub returns-in_err-ids-in-22 : goal.returns-in_err-ids-in-22
unfolding message
returns-in_err-ids-in-22 c =
    let p = err_from_is_err_and c.from_residual-in_err-ids-in-22.result c.from_residual-in_err-ids-in-22.ensures.1 in
    rw (p.1, p.2, c.in-22.is, request_message c.args.network c.args.body.now, sym c.in_err-ids-in-22.ensures, map-refusal)

pub returns-in_ok-payloads-in-33 : goal.returns-in_ok-payloads-in-33
unfolding message
returns-in_ok-payloads-in-33 c = rw (c.in-33.is, response_message c.args.network c.args.body.now, sym c.in_ok-payloads-in-33.ensures, map-value)

pub returns-in_err-payloads-in-33 : goal.returns-in_err-payloads-in-33
unfolding message
returns-in_err-payloads-in-33 c =
    let p = err_from_is_err_and c.from_residual-in_err-payloads-in-33.result c.from_residual-in_err-payloads-in-33.ensures.1 in
    rw (p.1, p.2, c.in-33.is, response_message c.args.network c.args.body.now, sym c.in_err-payloads-in-33.ensures, map-refusal)
