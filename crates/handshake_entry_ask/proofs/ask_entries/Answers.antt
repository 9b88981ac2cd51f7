-- `handshake_entry_ask::ask_entries` meets its contract: 16 of both tables, then the questions of all rows, then the
-- body's.
use Rattle.std.proofs.Common.{sym, ap, ◌∙◌}
use Rattle.std.proofs.lemmas.Result.{err_from_is_err_and}
use Rattle.handshake_entry_rows.specs.Row.{tables_of}
use Rattle.handshake_entry_ask.specs.Asked.{body_size}
use Rattle.handshake_entry_ask.specs.AskedLaws.{entries_broken, entries-whole}
use Rattle.handshake_entry_ask.proofs.ask_entries.Goals as goal

pub returns-then-not-is_whole : goal.returns-then-not-is_whole
returns-then-not-is_whole c = entries_broken (tables_of c.args.t) c.args.before (sym c.is_whole.ensures ∙ c.if-not-is_whole.true)

pub returns-in_err-ask_rows : goal.returns-in_err-ask_rows
unfolding body_size
returns-in_err-ask_rows c =
    let p = err_from_is_err_and c.from_residual.result c.from_residual.ensures.1 in
    rw (p.1, p.2) (ap (body_size c.args.before) c.in_err-ask_rows.ensures ∙ entries-whole (tables_of c.args.t) c.args.before (sym c.is_whole.ensures ∙ c.if-not-is_whole.false))

pub returns : goal.returns
returns c =
    c.ask_body.ensures ∙ ap (body_size c.args.before) c.in_ok-ask_rows.ensures
    ∙ entries-whole (tables_of c.args.t) c.args.before (sym c.is_whole.ensures ∙ c.if-not-is_whole.false)
