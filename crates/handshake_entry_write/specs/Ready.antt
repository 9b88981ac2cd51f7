-- What is known of a row, and of a whole table, once every question about it was answered "yes": it can be stored.
-- Only for laws, proofs and private functions: no public contract and no theorem cites what follows.
use Rattle.std.specs.Prelude.{◌≤◌, true, ◌≡◌}
use Rattle.wire.specs.Bytes.{every}
use Rattle.wire.proofs.OutputLaws.{AllHold}
use Rattle.handshake.specs.declared.EntryRow.{EntryRow}
use Rattle.handshake.specs.Value.{short_strings, entries_asked}
use Rattle.handshake.specs.Tables.{Tables, own_rows, entry_rows, entry_from_row, entries_of, feature_numbers, entry_numbers, tables_whole, entry_inside}

pub record Ready (l : Tables) (r : EntryRow) : Type 0 where
  pub numbers : entry_numbers r ≡ true
  pub ids : every feature_numbers (own_rows l r) ≡ true
  pub inside : entry_inside l r ≡ true
  pub short : short_strings (entry_from_row l r) ≡ true
  pub few : r.count ≤ 255

-- of all entries
pub record EntriesReady (l : Tables) : Type 0 where
  pub whole : tables_whole l ≡ true
  pub inside : every (entry_inside l) (entry_rows l) ≡ true
  pub asked : AllHold (entries_asked (entries_of l))
