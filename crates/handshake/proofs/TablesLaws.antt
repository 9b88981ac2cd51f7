-- What a row tells once 16 and 12 were answered "yes": its numbers and its parts; a part inside the buffer has its length, and an address has the
-- numbers of its type.
use Rattle.std.specs.Prelude.{ℕ, zero, suc, ◌+◌, ◌-◌, ◌/◌, ◌≤◌, ◌<◌, Bool, true, ◌||◌, List, ◌⊎◌, ◌≡◌, eqb, leb, ltb, drop}
use Rattle.std.proofs.Common.{arith, inl, inr, ⊎_elim, length-take, length-drop}
use Rattle.std.proofs.Math.ListN.{length}
use borrow.Author.Tests.{leb-true, ltb-true, eqb-true, ne_eqb}
use Rattle.wire.specs.Bytes.{every}
use Rattle.wire.proofs.BytesLaws.{and-true, or-true, every_take, every_drop, is_byte}
use Rattle.wire.specs.Numbers.{lt-or_ge}
use Rattle.handshake.specs.Value.{AddressTyped}
use Rattle.handshake.proofs.AddressLaws.{address_of-typed}
use Rattle.handshake.specs.declared.EntryRow.{EntryRow}
use Rattle.handshake.specs.Tables.{rows, feature_row_size, entry_row_size, entry_row, Tables, entry_rows, feature_rows, own_rows, bytes_at, entry_from_row, whole_rows, feature_numbers, entry_numbers, tables_whole, inside, feature_inside, entry_inside}
use Rattle.handshake.specs.Writes.{row_inside}

-- a part inside the buffer
pub length-bytes_at : (buffer : List ℕ) (at n : ℕ) → inside buffer at n ≡ true → length (bytes_at buffer at n) ≡ n
unfolding inside
length-bytes_at buffer at n h = let g : at + n ≤ length buffer = leb-true (at + n) (length buffer) h in simp (length-take, length-drop) (omega arith)

-- what holds of every row holds of one of them
pub every_row_lem : {A : Type 0} (test : A → Bool) (f : ℕ → A) (n i k : ℕ) → every test (rows f i n) ≡ true → i ≤ k → k < i + n → test (f k) ≡ true
unfolding every rows
every_row_lem test f zero i k h g l = absurd (omega arith)
every_row_lem test f (suc n) i k h g l =
    let b = and-true (test (f i)) (every test (rows f (i + 1) n)) h in
    ⊎_elim
    (λ (m : i < k). every_row_lem test f n (i + 1) k b.1 (omega arith) (omega arith))
    (λ (m : k ≤ i). let e : k ≡ i = omega arith in rw e b.0)
    (lt-or_ge i k)

module _ (l : Tables) (whole : tables_whole l ≡ true) where
  whole_rows_lem : (every entry_numbers (entry_rows l) ≡ true) × (every feature_numbers (feature_rows l) ≡ true)
  unfolding tables_whole
  whole_rows_lem =
      let a = (and-true (whole_rows entry_row_size l.entries) _ whole).1 in
      let b = (and-true (whole_rows feature_row_size l.features) _ a).1 in
      and-true (every entry_numbers (entry_rows l)) (every feature_numbers (feature_rows l)) b

  pub whole-entries : every entry_numbers (entry_rows l) ≡ true
  whole-entries = whole_rows_lem.0

  pub whole-features : every feature_numbers (feature_rows l) ≡ true
  whole-features = whole_rows_lem.1

  -- the numbers and the parts of the row that a handshake is written from
  pub row_numbers_lem : (k : ℕ) → row_inside l k ≡ true → entry_numbers (entry_row l.entries k) ≡ true
  unfolding row_inside
  row_numbers_lem k h =
      let n : k < length l.entries / entry_row_size = ltb-true k (length l.entries / entry_row_size) (and-true (ltb k (length l.entries / entry_row_size)) _ h).0 in
      every_row_lem entry_numbers (entry_row l.entries) (length l.entries / entry_row_size) 0 k whole-entries (omega arith) (omega arith)

  pub row_inside_lem : (k : ℕ) → row_inside l k ≡ true → entry_inside l (entry_row l.entries k) ≡ true
  unfolding row_inside
  row_inside_lem k h = (and-true (ltb k (length l.entries / entry_row_size)) _ h).1

-- what 16 says of a row's numbers
pub record RowNumbers (r : EntryRow) : Type 0 where
  pub major : r.major < 256
  pub minor : r.minor < 256
  pub patch : r.patch < 256
  pub port : r.port < 65536
  pub kind : (r.addrlen ≡ 0 → ⊥) → (r.addrlen ≡ 8) ⊎ (r.addrlen ≡ 20)

pub numbers_of : (r : EntryRow) → entry_numbers r ≡ true → RowNumbers r
unfolding entry_numbers
numbers_of r h =
    let a = and-true (ltb r.major 256) _ h in
    let b = and-true (ltb r.minor 256) _ a.1 in
    let c = and-true (ltb r.patch 256) _ b.1 in
    let d = and-true (ltb r.port 65536) _ c.1 in
    record {
      major = ltb-true r.major 256 a.0;
      minor = ltb-true r.minor 256 b.0;
      patch = ltb-true r.patch 256 c.0;
      port = ltb-true r.port 65536 d.0;
      kind = λ some.
          ⊎_elim
          (λ e. inl (eqb-true r.addrlen 8 e))
          (λ e. inr (eqb-true r.addrlen 20 e))
          (or-true (eqb r.addrlen 8) (eqb r.addrlen 20) (rw (ne_eqb r.addrlen 0 some) at d.1));
    }

-- what 12 says of a row's parts
pub record PartsInside (l : Tables) (r : EntryRow) : Type 0 where
  pub agent : inside l.buffer r.agentat r.agentlen ≡ true
  pub name : inside l.buffer r.nameat r.namelen ≡ true
  pub address : (eqb r.addrlen 0 || inside l.buffer r.addrat (r.addrlen - 4)) ≡ true
  pub range : leb (r.first + r.count) (length l.features / feature_row_size) ≡ true
  pub features : every (feature_inside l.buffer) (own_rows l r) ≡ true

pub parts_inside : (l : Tables) (r : EntryRow) → entry_inside l r ≡ true → PartsInside l r
unfolding entry_inside
parts_inside l r h =
    let a = and-true (inside l.buffer r.agentat r.agentlen) _ h in
    let b = and-true (inside l.buffer r.nameat r.namelen) _ a.1 in
    let d = and-true (eqb r.addrlen 0 || inside l.buffer r.addrat (r.addrlen - 4)) _ b.1 in
    let e = and-true (leb (r.first + r.count) (length l.features / feature_row_size)) (every (feature_inside l.buffer) (own_rows l r)) d.1 in
    record { agent = a.0; name = b.0; address = d.0; range = e.0; features = e.1 }

pub own_range : (l : Tables) (r : EntryRow) → entry_inside l r ≡ true → r.first + r.count ≤ length l.features / feature_row_size
own_range l r h = leb-true (r.first + r.count) (length l.features / feature_row_size) (parts_inside l r h).range

-- the address of a row
module _ (l : Tables) (r : EntryRow) (numbers : entry_numbers r ≡ true) (parts : entry_inside l r ≡ true) where
  -- with L = 0 it has no bytes
  address_long : length (bytes_at l.buffer r.addrat (r.addrlen - 4)) ≡ r.addrlen - 4
  address_long =
      ⊎_elim
      (λ x. let e : r.addrlen ≡ 0 = eqb-true r.addrlen 0 x in rw e)
      (λ x. length-bytes_at l.buffer r.addrat (r.addrlen - 4) x)
      (or-true (eqb r.addrlen 0) _ (parts_inside l r parts).address)

  pub row-address : every is_byte l.buffer ≡ true → AddressTyped (entry_from_row l r).address
  unfolding entry_from_row
  row-address typed =
      address_of-typed r.addrlen (bytes_at l.buffer r.addrat (r.addrlen - 4)) r.port
      (every_take is_byte (r.addrlen - 4) (drop r.addrat l.buffer) (every_drop is_byte r.addrat l.buffer typed)) address_long (numbers_of r numbers).port
