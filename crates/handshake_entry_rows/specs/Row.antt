-- The tables that the code is given, and a row of a table as it is read: outside the table a row of zeros.
use Rattle.std.specs.Prelude.{ℕ, ◌/◌, cond, List, ltb, length}
use Rattle.handshake.specs.declared.FeatureRow.{FeatureRow}
use Rattle.handshake.specs.declared.EntryRow.{EntryRow}
use Rattle.handshake.specs.Tables.{Tables, tables, feature_row, entry_row}
use Rattle.handshake_entry_rows.specs.declared.tables.Tables as Given

abbrev pub tables_of : Given.Tables → Tables
tables_of t = tables t.entries.now t.features.now t.buffer.now

abbrev pub zeros : EntryRow
zeros =
    record {
      agentat = 0;
      agentlen = 0;
      major = 0;
      minor = 0;
      patch = 0;
      nameat = 0;
      namelen = 0;
      addrlen = 0;
      addrat = 0;
      port = 0;
      first = 0;
      count = 0;
    }

unfoldable pub row_or_zeros : List ℕ → ℕ → EntryRow
row_or_zeros t k = cond (ltb k (length t / 12)) (entry_row t k) zeros

unfoldable pub feature_or_zeros : List ℕ → ℕ → FeatureRow
feature_or_zeros t k = cond (ltb k (length t / 3)) (feature_row t k) (record { id = 0; at = 0; len = 0 })
