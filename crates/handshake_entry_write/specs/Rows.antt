-- What the writer of all entries of a table says. The entries are the end of a body, `before` bytes of which stand
-- before them.
use Rattle.std.specs.Prelude.{ℕ}
use mathlib.Core.List.{List, [], ◌∷◌, flat_map}
use Rattle.wire.specs.Output.{ask, written, Written}
use Rattle.handshake.specs.Value.{entry_bytes}
use Rattle.handshake.specs.Tables.{Tables, entries_of, tables_whole}
use Rattle.handshake_entry_ask.specs.Asked.{rows_asked}

unfoldable pub rows_written : Tables → ℕ → List ℕ → ℕ → Written
rows_written l before out at = written (ask 16 (tables_whole l) ∷ []) (rows_asked l before) out at (flat_map entry_bytes (entries_of l))
