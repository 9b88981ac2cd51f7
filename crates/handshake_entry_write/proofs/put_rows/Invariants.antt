-- `handshake_entry_write::put_rows` meets its contract: the rows before k were stored.
use Rattle.handshake.specs.Value.{entry_bytes}
use Rattle.handshake.specs.Tables.{entry_row, entry_from_row, entry_inside}
use Rattle.handshake.proofs.PuttingLaws.{Putting}
use Rattle.handshake_entry_rows.specs.Row.{tables_of}
use Rattle.handshake_entry_write.proofs.put_rows.Given as goal

abbrev pub invariant-loop-k : goal.invariant-loop-k
invariant-loop-k l =
    let ts = tables_of l.t in
    Putting entry_bytes (entry_from_row ts) (entry_row ts.entries) (entry_inside ts) l.k-end l.initial.out l.at l.out l.o l.k
