-- Laws of what is said of one row and of all: the questions of a row, in their order; those of all rows, asked row by
-- row; the body's question.
use Rattle.std.specs.Prelude.{ℕ, ◌+◌, ◌/◌, ◌≤◌, ◌<◌, min, Bool, true, false, cond, ◌&&◌, ◌≡◌, refl, leb, length}
use Rattle.std.proofs.Common.{arith, ⊎_elim, sym, ap, ◌∙◌}
use mathlib.Core.List.{List, [], ◌∷◌, ◌++◌, map, flat_map, append-nil, map-append}
use Rattle.std.proofs.Math.ListN.{length-append}
use borrow.Author.Tests.{lt-ltb, le-ltb, lt-leb}
use Rattle.wire.specs.Bytes.{every}
use Rattle.wire.proofs.BytesLaws.{every_append, flat_map_append}
use Rattle.wire.specs.Numbers.{lt-or_ge}
use Rattle.wire.specs.Output.{Question, ask, sized, Size, Bytes, Unsized as Refused}
use Rattle.wire.specs.Earliest.{together, twice, fresh, distinct}
use Rattle.wire.proofs.EarliestLaws.{earliest}
use Rattle.vlq.specs.Vlq.{limit}
use Rattle.handshake.specs.declared.EntryRow.{EntryRow}
use Rattle.handshake.specs.Value.{entry_bytes, short_strings, utf8_strings, few_features, lengths_within, entries_asked}
use Rattle.handshake.specs.Tables.{Tables, rows, entry_row, entry_rows, entry_from_row, entries_of, tables_whole, entry_inside}
use Rattle.handshake.proofs.RowsLaws.{rows_last}
use Rattle.handshake.specs.Writes.{row_inside}
use Rattle.handshake_entry_ask.specs.Asked.{row_size, entry_size, entries_size, size_of, row_numbers, counted_to_limit, body_size}

pub and_right : (b : Bool) → b && true ≡ b
and_right true = refl
and_right false = refl

-- ---- one row

module _ (l : Tables) (k : ℕ) where
  pub entry_broken : tables_whole l ≡ false → Refused 16 ≡ entry_size l k
  unfolding entry_size sized
  entry_broken e = rw e

  module _ (e : tables_whole l ≡ true) where
    pub entry-outside : length l.entries / 12 ≤ k → Refused 12 ≡ entry_size l k
    unfolding entry_size row_inside sized
    entry-outside h = rw (e, le-ltb k (length l.entries / 12) h)

    pub entry_row_lem : k < length l.entries / 12 → row_size l (entry_row l.entries k) ≡ entry_size l k
    unfolding entry_size row_size row_inside sized
    entry_row_lem h = rw (e, lt-ltb k (length l.entries / 12) h)

-- ---- rows one after the other

module _ (l : Tables) where
  -- one row
  one-row : (r : EntryRow) → row_size l r ≡ size_of l (r ∷ [])
  unfolding row_size size_of every flat_map
  one-row r = rw (and_right (entry_inside l r), append-nil (entry_bytes (entry_from_row l r)))

  -- the first question that one of them fails is the first that all of them are asked and fail
  rows_then : (a b : List EntryRow) → size_of l (a ++ b) ≡ together row_numbers (size_of l a) (size_of l b)
  unfolding size_of entries_asked distinct fresh
  rows_then a b =
      let v = map (entry_from_row l) a in
      let w = map (entry_from_row l) b in
      rw (
        every_append (entry_inside l) a b,
        map-append (entry_from_row l) a b,
        every_append short_strings v w,
        every_append utf8_strings v w,
        every_append few_features v w,
        every_append lengths_within v w,
        flat_map_append entry_bytes v w,
        length-append (flat_map entry_bytes v) (flat_map entry_bytes w),
      )
      (earliest
      (twice 12 (every (entry_inside l) a) (every (entry_inside l) b)
      ∷ twice 13 (every short_strings v) (every short_strings w)
      ∷ twice 4 (every utf8_strings v) (every utf8_strings w)
      ∷ twice 15 (every few_features v) (every few_features w)
      ∷ twice 3 (every lengths_within v) (every lengths_within w)
      ∷ [])
      (length (flat_map entry_bytes v)) (length (flat_map entry_bytes w)) refl)

counted_then : (ns : List ℕ) (a b : Size) → counted_to_limit (together ns (counted_to_limit a) b) ≡ counted_to_limit (together ns a b)
unfolding counted_to_limit together
counted_then ns (Bytes m) (Bytes n) = ap Bytes (omega arith)
counted_then ns (Bytes m) (Refused q) = refl
counted_then ns (Refused p) (Bytes n) = refl
counted_then ns (Refused p) (Refused q) = refl

-- the rows before k were asked
pub record SizeSoFar (l : Tables) (k : ℕ) (s : Size) : Type 0 where
  pub same : s ≡ counted_to_limit (size_of l (rows (entry_row l.entries) 0 k))

pub size-start : (l : Tables) → SizeSoFar l 0 (Bytes 0)
unfolding counted_to_limit size_of rows entries_asked sized every flat_map
size-start l = record { same = refl }

module _ {l : Tables} {k : ℕ} {s : Size} (inv : SizeSoFar l k s) where
  pub size-turn : {own r : Size} → own ≡ row_size l (entry_row l.entries k) → r ≡ counted_to_limit (together row_numbers s own) → SizeSoFar l (k + 1) r
  size-turn {own} {r} e1 e2 =
      let f = entry_row l.entries in
      record {
        same = e2
            ∙ ap (λ (x : Size). counted_to_limit (together row_numbers x own)) inv.same
            ∙ counted_then row_numbers (size_of l (rows f 0 k)) own
            ∙ ap (λ (x : Size). counted_to_limit (together row_numbers (size_of l (rows f 0 k)) x)) (e1 ∙ one-row l (f k))
            ∙ ap counted_to_limit (sym (rows_then l (rows f 0 k) (f k ∷ [])) ∙ ap (size_of l) (sym (rows_last f k)));
      }

  pub size-end : k ≡ length l.entries / 12 → s ≡ counted_to_limit (size_of l (entry_rows l))
  size-end e = inv.same ∙ ap (λ (n : ℕ). counted_to_limit (size_of l (rows (entry_row l.entries) 0 n))) e

-- ---- the body's question

-- 7 is answered "no" of limit + 1 bytes as of any more
body-most : (before n : ℕ) → body_size before (Bytes (min n (limit + 1))) ≡ body_size before (Bytes n)
unfolding body_size
body-most before n =
    ⊎_elim
    (λ (h : n < limit + 1). let e : min n (limit + 1) ≡ n = omega arith in rw e)
    (λ (h : limit + 1 ≤ n).
    let e : min n (limit + 1) ≡ limit + 1 = omega arith in
    rw (e, lt-leb (before + (limit + 1)) limit (omega arith), lt-leb (before + n) limit (omega arith)))
    (lt-or_ge n (limit + 1))

body-last : (before n : ℕ) (qs : List Question) → body_size before (counted_to_limit (sized qs n)) ≡ sized (qs ++ (ask 7 (leb (before + n) limit) ∷ [])) n
unfolding body_size counted_to_limit sized
body-last before n [] = body-most before n ∙ last
  where
    last : body_size before (Bytes n) ≡ cond (leb (before + n) limit) (Bytes n) (Refused 7)
    last = refl
body-last before n (q ∷ qs) = go q.holds (sized qs n) (body-last before n qs)
  where
    go : (t : Bool) (s : Size) {r : Size} → body_size before (counted_to_limit s) ≡ r → body_size before (counted_to_limit (cond t s (Refused q.number))) ≡ cond t r (Refused q.number)
    go true s e = e
    go false s e = refl

module _ (l : Tables) (before : ℕ) where
  pub entries_broken : tables_whole l ≡ false → Refused 16 ≡ entries_size l before
  unfolding entries_size sized
  entries_broken e = rw e

  pub entries-whole : tables_whole l ≡ true → body_size before (counted_to_limit (size_of l (entry_rows l))) ≡ entries_size l before
  unfolding entries_size size_of sized entries_of
  entries-whole e = rw e (body-last before (length (flat_map entry_bytes (map (entry_from_row l) (entry_rows l)))) (ask 12 (every (entry_inside l) (entry_rows l)) ∷ entries_asked (map (entry_from_row l) (entry_rows l))))
