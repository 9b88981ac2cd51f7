-- A row that is in its table is read as it stands there; outside it has zeros. The value of a row: known by the feature
-- table and the buffer alone, with as many features as the row says. 16 is asked of the tables alone. The elements of a
-- slice of bytes are bytes.
use Rattle.std.specs.Prelude.{ℕ, suc, ◌+◌, ◌/◌, ◌≤◌, ◌<◌, true, List, [], ◌∷◌, ◌≡◌, refl, leb, length, get_or}
use Rattle.std.proofs.Common.{arith, ap, ◌∙◌}
use Rattle.std.proofs.lemmas.List.{length-map}
use borrow.Author.Tests.{lt-ltb, leb-true}
use Rattle.wire.specs.Bytes.{every}
use Rattle.wire.proofs.BytesLaws.{is_byte}
use Rattle.handshake.specs.declared.EntryRow.{EntryRow}
use Rattle.handshake.specs.declared.FeatureRow.{FeatureRow}
use Rattle.handshake.specs.Value.{short_strings, utf8_strings, few_features}
use Rattle.handshake.specs.Tables.{Tables, tables, rows, entry_row, feature_row, own_rows, feature_from_row, entry_from_row, tables_whole, inside, feature_inside, entry_inside}
use Rattle.handshake.proofs.TablesLaws.{every_row_lem, parts_inside}
use Rattle.handshake.proofs.RowsLaws.{length-rows}
use Rattle.handshake_entry_rows.specs.Row.{zeros, row_or_zeros, feature_or_zeros}

pub row-there : (t : List ℕ) (k : ℕ) → k < length t / 12 → row_or_zeros t k ≡ entry_row t k
unfolding row_or_zeros
row-there t k h = rw (lt-ltb k (length t / 12) h)

pub feature-there : (t : List ℕ) (k : ℕ) → k < length t / 3 → feature_or_zeros t k ≡ feature_row t k
unfolding feature_or_zeros
feature-there t k h = rw (lt-ltb k (length t / 3) h)

-- a row whose numbers are all 0
pub all_zero : (r : EntryRow)
    → (r.agentat ≡ 0) × ((r.agentlen ≡ 0) × ((r.major ≡ 0) × ((r.minor ≡ 0) × ((r.patch ≡ 0) × ((r.nameat ≡ 0)
    × ((r.namelen ≡ 0) × ((r.addrlen ≡ 0) × ((r.addrat ≡ 0) × ((r.port ≡ 0) × ((r.first ≡ 0) × (r.count ≡ 0)))))))))))
    → r ≡ zeros
all_zero r (a, (b, (c, (d, (e, (f, (g, (h, (i, (j, (k, l))))))))))) =
    let z : record {
      agentat = r.agentat;
      agentlen = r.agentlen;
      major = r.major;
      minor = r.minor;
      patch = r.patch;
      nameat = r.nameat;
      namelen = r.namelen;
      addrlen = r.addrlen;
      addrat = r.addrat;
      port = r.port;
      first = r.first;
      count = r.count;
    } ≡ zeros = rw (a, b, c, d, e, f, g, h, i, j, k, l) in z

pub zero_feature : (f : FeatureRow) → (f.id ≡ 0) × ((f.at ≡ 0) × (f.len ≡ 0)) → f ≡ record { id = 0; at = 0; len = 0 }
zero_feature f (a, (b, c)) =
    let z : record { id = f.id; at = f.at; len = f.len } ≡ record { id = 0; at = 0; len = 0 } = rw (a, b, c) in z

pub own-whole : (l : Tables) → tables_whole (tables l.entries l.features []) ≡ tables_whole l
unfolding tables_whole
own-whole l = refl

pub own-entry : (l : Tables) (r : EntryRow) → entry_from_row (tables [] l.features l.buffer) r ≡ entry_from_row l r
unfolding entry_from_row
own-entry l r = refl

pub own-inside : (l : Tables) (r : EntryRow) → entry_inside (tables [] l.features l.buffer) r ≡ entry_inside l r
unfolding entry_inside
own-inside l r = refl

pub length-features : (l : Tables) (r : EntryRow) → length (entry_from_row l r).features ≡ r.count
unfolding entry_from_row
length-features l r = length-map (own_rows l r) (feature_from_row l.buffer) ∙ length-rows (feature_row l.features) r.first r.count

pub own-short : (l : Tables) (r : EntryRow) → short_strings (entry_from_row (tables [] [] l.buffer) r) ≡ short_strings (entry_from_row l r)
unfolding short_strings entry_from_row
own-short l r = refl

pub own-utf8 : (l : Tables) (r : EntryRow) → utf8_strings (entry_from_row (tables [] [] l.buffer) r) ≡ utf8_strings (entry_from_row l r)
unfolding utf8_strings entry_from_row
own-utf8 l r = refl

pub few-count : (l : Tables) (r : EntryRow) → few_features (entry_from_row l r) ≡ leb r.count 255
unfolding few_features
few-count l r = ap (λ (n : ℕ). leb n 255) (length-features l r)

-- ---- the parts of a row that is inside

module _ (l : Tables) (r : EntryRow) (parts : entry_inside l r ≡ true) where
  pub agent-part : r.agentat + r.agentlen ≤ length l.buffer
  unfolding inside
  agent-part = leb-true (r.agentat + r.agentlen) (length l.buffer) (parts_inside l r parts).agent

  pub name-part : r.nameat + r.namelen ≤ length l.buffer
  unfolding inside
  name-part = leb-true (r.nameat + r.namelen) (length l.buffer) (parts_inside l r parts).name

-- the body of one of n feature rows from i on
pub part-inside : (buffer t : List ℕ) (i n k : ℕ) → every (feature_inside buffer) (rows (feature_row t) i n) ≡ true → k < n
    → (feature_row t (i + k)).at + (feature_row t (i + k)).len ≤ length buffer
unfolding feature_inside inside
part-inside buffer t i n k h l =
    let f = feature_row t (i + k) in
    leb-true (f.at + f.len) (length buffer) (every_row_lem (feature_inside buffer) (feature_row t) n i (i + k) h (omega arith) (omega arith))

-- ---- the elements of a slice of bytes

pub all_bytes : (s : List ℕ) → ((i : ℕ) → get_or s i 0 < 256) → every is_byte s ≡ true
unfolding every
all_bytes [] h = refl
all_bytes (b ∷ s) h = rw (lt-ltb b 256 (h 0)) (all_bytes s (λ i. h (suc i)))
