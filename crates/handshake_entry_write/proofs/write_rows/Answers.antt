-- `handshake_entry_write::write_rows` meets its contract: every question was asked first, and the entries were stored once all held.
use Rattle.std.proofs.Common.{refl}
use Rattle.std.proofs.lemmas.Result.{err_from_is_err_and}
use Rattle.handshake_entry_rows.specs.Row.{tables_of}
use Rattle.handshake_entry_write.specs.RowsLaws.{rows-accepted, rows_stored, rows-kept}
use Rattle.handshake_entry_write.proofs.write_rows.Goals as goal

pub returns-in_err-end : goal.returns-in_err-end
returns-in_err-end c =
    let p = err_from_is_err_and c.from_residual.result c.from_residual.ensures.1 in
    let e = rows-kept (tables_of c.args.t) c.args.before c.args.out.now c.args.at c.ask_entries.ensures c.in_err-end.ensures refl in
    rw (p.1, p.2) (record { value = e.0; out_after = e.1 })

pub put_rows-requires : goal.put_rows-requires
put_rows-requires c =
    let yes = rows-accepted (tables_of c.args.t) c.args.before c.args.out.now c.args.at c.ask_entries.ensures c.in_ok-end.ensures refl in
    record { entries_ready = yes.0; t_in_bounds = yes.1 }

pub returns : goal.returns
returns c =
    let e = rows_stored (tables_of c.args.t) c.args.before c.args.out.now c.args.at c.ask_entries.ensures c.in_ok-end.ensures refl c.put_rows.ensures in
    record { value = e.0; out_after = e.1 }
