-- `messages_response_read::payload_by_index` meets its contract: once the body is read, the payload that is read
-- after those before it.
use Prim.Native.Nat.{ℕ}
use mathlib.Core.Path.{sym, ap}
use lib.ListN.{length}
use Rattle.std.proofs.lemmas.Result.{err_from_is_err_and}
use Rattle.wire.proofs.ReaderLaws.{map-got, map-refused, map-value, map-refusal}
use Rattle.messages.specs.Message.{total, payload}
use Rattle.messages_inventory_read.specs.Answers.{inventory_in}
use Rattle.messages_inventory_read.proofs.ItemsLaws.{item_refused, item_past, item-after, item-not-after}
use Rattle.messages_response_read.specs.declared.Payload.{Payload}
use Rattle.messages_response_read.specs.Parts.{payload_at}
use Rattle.messages_response_read.specs.Answers.{payload_sum}
use Rattle.messages_response_read.proofs.payload_by_index.Goals as goal

pub returns-then-payloads-index : goal.returns-then-payloads-index
unfolding payload_at
returns-then-payloads-index c =
    let q = map-got (inventory_in c.args.body.now) (sym c.in_ok-payloads.ensures) in
    rw (item_past (payload (length c.args.body.now)) c.args.index c.args.body.now q.1 q.2 c.if-payloads-index.true, map-refusal)

pub returns : goal.returns
unfolding payload payload_at
returns c =
    let q = map-got (inventory_in c.args.body.now) (sym c.in_ok-payloads.ensures) in
    let r = map-got total (sym c.in_ok-total.ensures) in
    let e = map-got (payload_sum c.in_ok-total.total) (sym c.in_ok-payload.ensures) in
    rw (
      item-after (payload (length c.args.body.now)) c.args.index c.args.body.now q.1 q.2 c.if-payloads-index.false r.1,
      r.2,
      e.1,
      map-value,
      ap (λ (x : Payload × ℕ). x.0) e.2,
    )

pub returns-in_err-payload : goal.returns-in_err-payload
unfolding payload payload_at
returns-in_err-payload c =
    let q = map-got (inventory_in c.args.body.now) (sym c.in_ok-payloads.ensures) in
    let r = map-got total (sym c.in_ok-total.ensures) in
    let e = map-refused (payload_sum c.in_ok-total.total) (sym c.in_err-payload.ensures) in
    let p = err_from_is_err_and c.from_residual-in_err-payload.result c.from_residual-in_err-payload.ensures.1 in
    rw (
      p.1,
      p.2,
      item-after (payload (length c.args.body.now)) c.args.index c.args.body.now q.1 q.2 c.if-payloads-index.false r.1,
      r.2,
      e,
      map-refusal,
    )

pub returns-in_err-total : goal.returns-in_err-total
unfolding payload_at
returns-in_err-total c =
    let q = map-got (inventory_in c.args.body.now) (sym c.in_ok-payloads.ensures) in
    let r = map-refused total (sym c.in_err-total.ensures) in
    let p = err_from_is_err_and c.from_residual-in_err-total.result c.from_residual-in_err-total.ensures.1 in
    rw (p.1, p.2, item-not-after (payload (length c.args.body.now)) c.args.index c.args.body.now q.1 q.2 c.if-payloads-index.false r, map-refusal)

pub returns-in_err-payloads : goal.returns-in_err-payloads
unfolding payload_at
returns-in_err-payloads c =
    let q = map-refused (inventory_in c.args.body.now) (sym c.in_err-payloads.ensures) in
    let p = err_from_is_err_and c.from_residual.result c.from_residual.ensures.1 in
    rw (p.1, p.2, item_refused (payload (length c.args.body.now)) c.args.index c.args.body.now q, map-refusal)
