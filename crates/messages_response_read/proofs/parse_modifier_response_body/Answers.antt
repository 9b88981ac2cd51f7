-- `messages_response_read::parse_modifier_response_body` meets its contract: as many payloads are read as the count
-- says.
use mathlib.Core.Path.{sym}
use lib.ListN.{length}
use Rattle.std.proofs.lemmas.Result.{err_from_is_err_and}
use Rattle.wire.proofs.ReaderLaws.{map-got, map-refused}
use Rattle.messages.specs.Message.{total, payload}
use Rattle.messages_inventory_read.proofs.ItemsLaws.{items-got, items_refused}
use Rattle.messages_response_read.proofs.parse_modifier_response_body.Goals as goal

pub returns : goal.returns
returns c = items-got (payload (length c.args.body.now)) c.args.body.now (sym c.in_ok-payloads.ensures) (map-got total (sym c.in_ok-end.ensures)).1

pub returns-in_err-end : goal.returns-in_err-end
returns-in_err-end c =
    let p = err_from_is_err_and c.from_residual-in_err-end.result c.from_residual-in_err-end.ensures.1 in
    rw (p.1, p.2) (items_refused (payload (length c.args.body.now)) c.args.body.now (sym c.in_ok-payloads.ensures) (map-refused total (sym c.in_err-end.ensures)))
