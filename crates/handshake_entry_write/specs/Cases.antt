-- What the writer of all entries says where two questions are answered "no" at once, and at the limit of the body,
-- computed from the definition.
use Rattle.std.specs.Prelude.{◌≡◌, refl}
use mathlib.Core.List.{List, [], ◌∷◌, map, flat_map}
use Rattle.wire.specs.Bytes.{every}
use Rattle.wire.specs.Output.{asked, written, Written, To, Refused}
use Rattle.handshake.specs.Value.{short_strings, utf8_strings, few_features, lengths_within, entries_asked}
use Rattle.handshake.specs.Entry.{address_of}
use Rattle.handshake.specs.Tables.{rows, Tables, tables, feature_from_row, entry_from_row, entries_of, whole_rows, feature_numbers, entry_numbers, tables_whole, inside, feature_inside, entry_inside}
use Rattle.handshake_entry_write.specs.Rows.{rows_written}

-- what is computed, and what it is by hand
pub record Case : Type 0 where
  pub computed : Written
  pub is : Written

abbrev case : Written → Written → Case
case c i = record { computed = c; is = i }

-- a table that has no whole rows; one with a row whose agent is outside the buffer; one with no row
abbrev torn : Tables
torn = tables (1 ∷ []) [] []

abbrev outside : Tables
outside = tables (1 ∷ 1 ∷ 6 ∷ 0 ∷ 1 ∷ 0 ∷ 0 ∷ 0 ∷ 0 ∷ 0 ∷ 0 ∷ 0 ∷ []) [] []

abbrev none : Tables
none = tables [] [] []

unfoldable pub rows_cases : List Case
rows_cases =
    -- 16, then the place, then a row's 12
    case (rows_written torn 0 [] 1) (Refused 16)
    ∷ case (rows_written none 0 [] 1) (Refused 12)
    ∷ case (rows_written outside 16388609 [] 0) (Refused 12)
    -- 7 of the body, before 14; both sides of its limit
    ∷ case (rows_written none 16388609 [] 0) (Refused 7)
    ∷ case (rows_written none 16388608 [] 0) (To 0)
    ∷ []

pub rows_cases_lem : map (λ (c : Case). c.computed) rows_cases ≡ map (λ (c : Case). c.is) rows_cases
unfolding rows_cases rows_written written asked entries_asked every short_strings utf8_strings few_features lengths_within rows whole_rows feature_numbers entry_numbers tables_whole inside feature_inside entry_inside entries_of entry_from_row feature_from_row address_of flat_map
rows_cases_lem = refl
