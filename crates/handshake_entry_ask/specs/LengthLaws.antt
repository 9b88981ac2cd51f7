-- How many bytes an entry, its address and its features are written as.
use Rattle.std.specs.Prelude.{ℕ, ◌+◌, ◌-◌, Bool, ◌≡◌, leb}
use native.Mathlib.Omega.{arith}
use mathlib.Core.List.{List, [], ◌∷◌, ◌++◌, map, flat_map, append_assoc}
use Rattle.std.proofs.Common.{sym, ap, ◌∙◌}
use Rattle.std.proofs.Math.ListN.{length, length-append, length-map}
use borrow.Author.Tests.{ne_eqb}
use Rattle.wire.specs.Bytes.{big_endian_bytes, every}
use Rattle.wire.proofs.BytesLaws.{length-big_endian_bytes, every_map}
use Rattle.vlq.specs.Vlq.{limit, vlq_bytes}
use Rattle.vlq.specs.ShortString.{short_string_bytes}
use Rattle.handshake.specs.declared.FeatureRow.{FeatureRow}
use Rattle.handshake.specs.declared.EntryRow.{EntryRow}
use Rattle.handshake.specs.Entry.{address_of}
use Rattle.handshake.specs.Value.{feature_bytes, version_bytes, address_bytes, entry_bytes, lengths_within}
use Rattle.handshake.specs.Tables.{Tables, rows, feature_row, own_rows, bytes_at, feature_from_row, entry_from_row}
use Rattle.handshake.proofs.RowsLaws.{length-rows, rows-from}
use Rattle.handshake_entry_ask.specs.Asked.{head_bytes}

-- ---- an address

module _ (bytes : List ℕ) (port : ℕ) where
  pub length-v4 : (l : ℕ) → l ≡ 8 → length (address_bytes (address_of l bytes port)) ≡ 6 + length (vlq_bytes port)
  unfolding address_bytes address_of
  length-v4 l e = rw e (go _)
    where
      go : (ip : ℕ) → length (1 ∷ 8 ∷ (big_endian_bytes 4 ip ++ vlq_bytes port)) ≡ 6 + length (vlq_bytes port)
      go ip = omega (arith, length-append (big_endian_bytes 4 ip) (vlq_bytes port), length-big_endian_bytes 4 ip)

  pub length-v6 : (l : ℕ) → l ≡ 20 → length (address_bytes (address_of l bytes port)) ≡ 18 + length (vlq_bytes port)
  unfolding address_bytes address_of
  length-v6 l e = rw e (go _ _)
    where
      go : (high low : ℕ) → length (1 ∷ 20 ∷ (big_endian_bytes 8 high ++ (big_endian_bytes 8 low ++ vlq_bytes port))) ≡ 18 + length (vlq_bytes port)
      go high low =
          omega (
            arith,
            length-append (big_endian_bytes 8 high) (big_endian_bytes 8 low ++ vlq_bytes port),
            length-append (big_endian_bytes 8 low) (vlq_bytes port),
            length-big_endian_bytes 8 high,
            length-big_endian_bytes 8 low,
          )

  pub address-none : (l : ℕ) → (l ≡ 8 → ⊥) → (l ≡ 20 → ⊥) → address_bytes (address_of l bytes port) ≡ 0 ∷ []
  unfolding address_bytes address_of
  address-none l e f = rw (ne_eqb l 8 e, ne_eqb l 20 f)

-- ---- a feature and an entry

pub length-feature : (buffer : List ℕ) (f : FeatureRow)
    → let n = length (bytes_at buffer f.at f.len) in length (feature_bytes (feature_from_row buffer f)) ≡ 1 + length (vlq_bytes n) + n
unfolding feature_bytes feature_from_row
length-feature buffer f =
    let b = bytes_at buffer f.at f.len in
    omega (arith, length-append (vlq_bytes (length b)) b)

-- 3 of a feature's row, and over the rows of an entry, counted from 0
unfoldable pub body_within : List ℕ → FeatureRow → Bool
body_within buffer f = leb (length (bytes_at buffer f.at f.len)) limit

pub within-rows : (l : Tables) (r : EntryRow)
    → lengths_within (entry_from_row l r) ≡ every (body_within l.buffer) (rows (λ i. feature_row l.features (r.first + i)) 0 r.count)
unfolding lengths_within entry_from_row feature_from_row body_within
within-rows l r =
    every_map (λ f. leb (length f.body) limit) (feature_from_row l.buffer) (own_rows l r)
    ∙ ap (every (body_within l.buffer)) (sym (rows-from (feature_row l.features) r.first r.count))

-- the bytes of an entry: its head, its address, its features
module _ (l : Tables) (r : EntryRow) where
  abbrev pub addr : List ℕ
  addr = address_bytes (address_of r.addrlen (bytes_at l.buffer r.addrat (r.addrlen - 4)) r.port)

  abbrev pub own : List ℕ
  own = flat_map feature_bytes (map (feature_from_row l.buffer) (own_rows l r))

  pub entry_parts_lem : entry_bytes (entry_from_row l r) ≡ head_bytes l.buffer r ++ (addr ++ (r.count ∷ own))
  unfolding entry_bytes entry_from_row head_bytes version_bytes
  entry_parts_lem =
      let count : length (map (feature_from_row l.buffer) (own_rows l r)) ≡ r.count =
      length-map (own_rows l r) (feature_from_row l.buffer) ∙ length-rows (feature_row l.features) r.first r.count in
      rw (count, append_assoc)

  pub length-entry : length (entry_bytes (entry_from_row l r)) ≡ length (head_bytes l.buffer r) + length addr + 1 + length own
  length-entry =
      omega (arith, ap length entry_parts_lem, length-append (head_bytes l.buffer r) (addr ++ (r.count ∷ own)), length-append addr (r.count ∷ own))

pub length-head : (buffer : List ℕ) (r : EntryRow)
    → length (head_bytes buffer r) ≡ 5 + length (bytes_at buffer r.agentat r.agentlen) + length (bytes_at buffer r.nameat r.namelen)
unfolding head_bytes
length-head buffer r =
    let a = bytes_at buffer r.agentat r.agentlen in
    let n = bytes_at buffer r.nameat r.namelen in
    omega (arith, length-append (short_string_bytes a) ((r.major ∷ r.minor ∷ r.patch ∷ []) ++ short_string_bytes n), length-append (r.major ∷ r.minor ∷ r.patch ∷ []) (short_string_bytes n))
