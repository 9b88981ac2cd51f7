-- `handshake_entry_write::put_rows` meets its contract: the rows before k were stored.
use Rattle.std.proofs.Common.{arith, ◌∙◌}
use Rattle.handshake.specs.Tables.{entries_of}
use Rattle.handshake.proofs.PuttingLaws.{putting_start, putting_room, putting_turn, putting_end}
use Rattle.handshake_entry_rows.specs.Row.{tables_of}
use Rattle.handshake_entry_rows.specs.ValueLaws.{row-there}
use Rattle.handshake_entry_write.specs.RowsLaws.{each-row_ready}
use Rattle.handshake_entry_write.proofs.put_rows.Goals as goal

pub loop-k-init : goal.loop-k-init
unfolding entries_of
loop-k-init c = rw c.entry_count-k-end.ensures (putting_start _ _ _ _ _ _ _ c.requires.entries_ready.inside c.requires.t_in_bounds)

pub put_entry-o-requires : goal.put_entry-o-requires
put_entry-o-requires c =
    let l = tables_of c.args.t in
    let row = c.entry_at.ensures ∙ row-there l.entries c.loop-k.k (omega arith) in
    record {
      ready = rw row (each-row_ready l c.loop-k.k (omega arith) c.requires.entries_ready);
      e_in_bounds = rw row (putting_room c.loop-k.invariant (omega arith));
    }

pub loop-k-preserved : goal.loop-k-preserved
loop-k-preserved c =
    let l = tables_of c.args.t in
    let row = c.entry_at.ensures ∙ row-there l.entries c.loop-k.k (omega arith) in
    putting_turn c.loop-k.invariant (omega arith) (rw row at c.put_entry-o.ensures)

pub returns : goal.returns
unfolding entries_of
returns c = rw c.entry_count-k-end.ensures at (putting_end c.loop-k.invariant (omega arith))
