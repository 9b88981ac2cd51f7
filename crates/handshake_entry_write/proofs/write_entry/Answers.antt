-- `handshake_entry_write::write_entry` meets its contract: every question was asked first, and the entry was stored once all held.
use Rattle.std.proofs.Common.{refl, ◌∙◌}
use Rattle.std.proofs.lemmas.Result.{err_from_is_err_and}
use Rattle.handshake_entry_rows.specs.Row.{tables_of}
use Rattle.handshake_entry_rows.specs.ValueLaws.{row-there}
use Rattle.handshake_entry_write.specs.EntryLaws.{entry_in-table, entry-accepted, entry_stored, entry_kept}
use Rattle.handshake_entry_write.proofs.write_entry.Goals as goal

pub returns-in_err-end : goal.returns-in_err-end
returns-in_err-end c =
    let p = err_from_is_err_and c.from_residual.result c.from_residual.ensures.1 in
    let e = entry_kept (tables_of c.args.t) c.args.k c.args.out.now c.args.at c.ask_entry.ensures c.in_err-end.ensures refl in
    rw (p.1, p.2) (record { value = e.0; out_after = e.1 })

pub put_entry-requires : goal.put_entry-requires
put_entry-requires c =
    let l = tables_of c.args.t in
    let yes = entry-accepted l c.args.k c.args.out.now c.args.at c.ask_entry.ensures c.in_ok-end.ensures refl in
    let lt = entry_in-table l c.args.k c.args.out.now c.args.at c.ask_entry.ensures c.in_ok-end.ensures refl in
    let row = c.entry_at.ensures ∙ row-there l.entries c.args.k lt in
    record { ready = rw row yes.0; e_in_bounds = rw row yes.1 }

pub returns : goal.returns
returns c =
    let l = tables_of c.args.t in
    let lt = entry_in-table l c.args.k c.args.out.now c.args.at c.ask_entry.ensures c.in_ok-end.ensures refl in
    let row = c.entry_at.ensures ∙ row-there l.entries c.args.k lt in
    let e = entry_stored l c.args.k c.args.out.now c.args.at c.ask_entry.ensures c.in_ok-end.ensures refl (rw row at c.put_entry.ensures) in
    record { value = e.0; out_after = e.1 }
