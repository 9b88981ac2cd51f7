-- `handshake_entry_ask::ask_rows` meets its contract. The loop has asked the rows before k.
use Rattle.std.proofs.Common.{arith, ap, ◌∙◌}
use Rattle.handshake_entry_rows.specs.Row.{tables_of}
use Rattle.handshake_entry_rows.specs.ValueLaws.{row-there}
use Rattle.handshake_entry_ask.specs.Asked.{row_size}
use Rattle.handshake_entry_ask.specs.AskedLaws.{size-start, size-turn, size-end}
use Rattle.handshake_entry_ask.proofs.ask_rows.Goals as goal

pub loop-k-init : goal.loop-k-init
loop-k-init c = size-start _

pub loop-k-preserved : goal.loop-k-preserved
loop-k-preserved c =
    let row = c.entry_at.ensures ∙ row-there c.args.t.entries.now c.loop-k.k (omega arith) in
    let own = c.ask_row.ensures ∙ ap (row_size (tables_of c.args.t)) row in
    size-turn c.loop-k.invariant own c.add_row-size.ensures

pub returns : goal.returns
returns c = size-end c.loop-k.invariant (omega arith)
