-- What is said of entries before they are written (document 01, "Questions", Writers): how many bytes they are
-- written as, or the number of the first question answered "no".
use Rattle.std.specs.Prelude.{ℕ, ◌+◌, min, cond, leb, length}
use mathlib.Core.List.{List, [], ◌∷◌, ◌++◌, map, flat_map}
use Rattle.wire.specs.Bytes.{every}
use Rattle.wire.specs.Output.{Question, ask, sized, Size, Bytes, Unsized as Refused}
use Rattle.vlq.specs.Vlq.{limit}
use Rattle.vlq.specs.ShortString.{short_string_bytes}
use Rattle.handshake.specs.declared.EntryRow.{EntryRow}
use Rattle.handshake.specs.Value.{entry_bytes, entries_asked}
use Rattle.handshake.specs.Tables.{Tables, entry_rows, bytes_at, entry_from_row, entries_of, tables_whole, entry_inside}
use Rattle.handshake.specs.Writes.{entry_at_row, row_asked}

-- of the entry of a row, after 16
unfoldable pub row_size : Tables → EntryRow → Size
row_size l r = sized (ask 12 (entry_inside l r) ∷ entries_asked (entry_from_row l r ∷ [])) (length (entry_bytes (entry_from_row l r)))

-- of the entry in row k
unfoldable pub entry_size : Tables → ℕ → Size
entry_size l k = sized (ask 16 (tables_whole l) ∷ row_asked l k) (length (entry_bytes (entry_at_row l k)))

-- the questions of all entries after 16; the entries are the end of a body, `before` bytes of which stand before them
abbrev pub rows_asked : Tables → ℕ → List Question
rows_asked l before =
    ask 12 (every (entry_inside l) (entry_rows l))
    ∷ (entries_asked (entries_of l)
    ++ (ask 7 (leb (before + length (flat_map entry_bytes (entries_of l))) limit)
    ∷ []))

unfoldable pub entries_size : Tables → ℕ → Size
entries_size l before = sized (ask 16 (tables_whole l) ∷ rows_asked l before) (length (flat_map entry_bytes (entries_of l)))

-- ---- Only for laws, proofs and private functions: no public contract and no theorem cites what follows.

-- of the entries of some rows, before the body's question
unfoldable pub size_of : Tables → List EntryRow → Size
size_of l rs =
    sized (ask 12 (every (entry_inside l) rs) ∷ entries_asked (map (entry_from_row l) rs)) (length (flat_map entry_bytes (map (entry_from_row l) rs)))

-- the numbers of a row's questions in their order
abbrev pub row_numbers : List ℕ
row_numbers = 12 ∷ 13 ∷ 4 ∷ 15 ∷ 3 ∷ []

-- bytes counted up to the limit and one more
unfoldable pub counted_to_limit : Size → Size
counted_to_limit (Bytes n) = Bytes (min n (limit + 1))
counted_to_limit (Refused m) = Refused m

-- with the body's question
unfoldable pub body_size : ℕ → Size → Size
body_size before (Bytes n) = cond (leb (before + n) limit) (Bytes n) (Refused 7)
body_size before (Refused m) = Refused m

-- agent, version and name
unfoldable pub head_bytes : List ℕ → EntryRow → List ℕ
head_bytes buffer r =
    short_string_bytes (bytes_at buffer r.agentat r.agentlen)
    ++ ((r.major ∷ r.minor ∷ r.patch ∷ []) ++ short_string_bytes (bytes_at buffer r.nameat r.namelen))
