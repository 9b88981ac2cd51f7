-- What is known of a row once its questions, or those over all rows, are answered "yes".
use Rattle.std.specs.Prelude.{ℕ, ◌/◌, ◌<◌, Bool, [], ◌∷◌, ◌≡◌, ltb, length}
use Rattle.std.proofs.Common.{arith, ◌∙◌}
use Rattle.std.proofs.Math.Bool.{true}
use Rattle.std.proofs.Math.Path.{sym}
use borrow.Author.Tests.{leb-true, ltb-true, lt-ltb}
use Rattle.wire.specs.Bytes.{every}
use Rattle.wire.proofs.BytesLaws.{and-true, every_map}
use Rattle.wire.proofs.OutputLaws.{AllHold}
use Rattle.handshake.specs.Value.{EntryValue, short_strings, utf8_strings, few_features, lengths_within, entries_asked}
use Rattle.handshake.specs.Tables.{Tables, feature_row, entry_row, entry_rows, entry_from_row, entries_of, feature_numbers, tables_whole, entry_inside}
use Rattle.handshake.proofs.TablesLaws.{every_row_lem, row_numbers_lem, row_inside_lem, whole-features, own_range}
use Rattle.handshake.proofs.RowsLaws.{every-rows}
use Rattle.handshake.specs.Writes.{entry_at_row, row_inside, row_asked}
use Rattle.handshake_entry_rows.specs.ValueLaws.{length-features}
use Rattle.handshake_entry_write.specs.Ready.{Ready}

module _ (l : Tables) (k : ℕ) (yes : AllHold (row_asked l k)) where
  pub row_in_table : k < length l.entries / 12
  unfolding row_inside
  row_in_table = ltb-true k (length l.entries / 12) (and-true (ltb k (length l.entries / 12)) _ yes.0).0

  pub row_ready : tables_whole l ≡ true → Ready l (entry_row l.entries k)
  unfolding entry_inside entries_asked every few_features
  row_ready whole =
      let r = entry_row l.entries k in
      let all = row_inside_lem l whole k yes.0 in
      let few = leb-true (length (entry_from_row l r).features) 255 (and-true (few_features (entry_from_row l r)) true yes.1.1.1.0).0 in
      record {
        numbers = row_numbers_lem l whole k yes.0;
        ids = every-rows feature_numbers (feature_row l.features) (length l.features / 3) r.first r.count (whole-features l whole) (own_range l r all);
        inside = all;
        short = (and-true (short_strings (entry_from_row l r)) true yes.1.0).0;
        few = omega (arith, few, length-features l r);
      }

-- once every question over all rows is answered "yes", so are those of each row alone
module _ (l : Tables) (k : ℕ) (h : k < length l.entries / 12) where
  value_of-row : (test : EntryValue → Bool) → every test (entries_of l) ≡ true → every test (entry_at_row l k ∷ []) ≡ true
  unfolding entries_of every
  value_of-row test e =
      let all = sym (every_map test (entry_from_row l) (entry_rows l)) ∙ e in
      rw (every_row_lem (λ r. test (entry_from_row l r)) (entry_row l.entries) (length l.entries / 12) 0 k all (omega arith) (omega arith))

  pub each-row_asked : every (entry_inside l) (entry_rows l) ≡ true → AllHold (entries_asked (entries_of l)) → AllHold (row_asked l k)
  unfolding row_inside entries_asked
  each-row_asked within holds = (
    rw (lt-ltb k (length l.entries / 12) h) (every_row_lem (entry_inside l) (entry_row l.entries) (length l.entries / 12) 0 k within (omega arith) (omega arith)),
    (value_of-row short_strings holds.0, (value_of-row utf8_strings holds.1.0, (value_of-row few_features holds.1.1.0, (value_of-row lengths_within holds.1.1.1.0, tt)))),
  )
