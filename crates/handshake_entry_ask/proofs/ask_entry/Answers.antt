-- `handshake_entry_ask::ask_entry` meets its contract: 16 of both tables, the row in its table, then the questions of
-- the row.
use Rattle.std.proofs.Common.{arith, sym, ap, ◌∙◌}
use Rattle.handshake_entry_rows.specs.Row.{tables_of}
use Rattle.handshake_entry_rows.specs.ValueLaws.{row-there}
use Rattle.handshake_entry_ask.specs.Asked.{row_size}
use Rattle.handshake_entry_ask.specs.AskedLaws.{entry_broken, entry-outside, entry_row_lem}
use Rattle.handshake_entry_ask.proofs.ask_entry.Goals as goal

pub returns-then-not-is_whole : goal.returns-then-not-is_whole
returns-then-not-is_whole c = entry_broken (tables_of c.args.t) c.args.k (sym c.is_whole.ensures ∙ c.if-not-is_whole.true)

pub returns-then-entry_count-k : goal.returns-then-entry_count-k
returns-then-entry_count-k c = entry-outside (tables_of c.args.t) c.args.k (sym c.is_whole.ensures ∙ c.if-not-is_whole.false) (omega arith)

pub returns : goal.returns
returns c =
    let l = tables_of c.args.t in
    let row = c.entry_at.ensures ∙ row-there l.entries c.args.k (omega arith) in
    c.ask_row.ensures ∙ ap (row_size l) row ∙ entry_row_lem l c.args.k (sym c.is_whole.ensures ∙ c.if-not-is_whole.false) (omega arith)
