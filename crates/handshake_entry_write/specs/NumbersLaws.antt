-- What a row's numbers say, its strings and its address.
use Rattle.std.specs.Prelude.{ℕ, ◌+◌, ◌-◌, ◌≤◌, ◌<◌, true, ◌||◌, List, [], ◌∷◌, ◌++◌, ◌≡◌, eqb, leb, length, drop}
use Rattle.std.proofs.Common.{arith, ⊎_elim, ap, length-append, ltb-true, leb-true, ne_eqb}
use Rattle.wire.specs.Bytes.{every}
use Rattle.wire.proofs.BytesLaws.{is_byte, every_take, every_drop}
use Rattle.handshake.specs.declared.EntryRow.{EntryRow}
use Rattle.handshake.specs.declared.FeatureRow.{FeatureRow}
use Rattle.handshake.specs.Entry.{address_of}
use Rattle.handshake.proofs.AddressLaws.{address_bytes-of}
use Rattle.handshake.specs.Value.{address_bytes}
use Rattle.handshake.specs.Tables.{bytes_at, feature_numbers, entry_numbers, inside}
use Rattle.handshake.proofs.TablesLaws.{length-bytes_at, numbers_of}
use Rattle.vlq.specs.Vlq.{vlq_bytes}

pub id-byte : (f : FeatureRow) → feature_numbers f ≡ true → f.id < 256
unfolding feature_numbers
id-byte f h = ltb-true f.id 256 h

-- ---- the address of a row

pub address-zero : (l : ℕ) (bytes : List ℕ) (port : ℕ) → l ≡ 0 → address_bytes (address_of l bytes port) ≡ 0 ∷ []
unfolding address_bytes address_of
address-zero l bytes port e = rw e

pub address-within : (r : EntryRow) (len : ℕ) → (eqb r.addrlen 0 || leb (r.addrat + (r.addrlen - 4)) len) ≡ true → (r.addrlen ≡ 0 → ⊥)
    → r.addrat + (r.addrlen - 4) ≤ len
address-within r len part some = leb-true (r.addrat + (r.addrlen - 4)) len (rw (ne_eqb r.addrlen 0 some) at part)

module _ (buffer : List ℕ) (r : EntryRow) (are : every is_byte buffer ≡ true) (numbers : entry_numbers r ≡ true)
    (part : (eqb r.addrlen 0 || leb (r.addrat + (r.addrlen - 4)) (length buffer)) ≡ true) (some : r.addrlen ≡ 0 → ⊥)
  where
    pub address-some : address_bytes (address_of r.addrlen (bytes_at buffer r.addrat (r.addrlen - 4)) r.port)
        ≡ (1 ∷ r.addrlen ∷ []) ++ (bytes_at buffer r.addrat (r.addrlen - 4) ++ vlq_bytes r.port)
    unfolding inside
    address-some =
        address_bytes-of r.addrlen (bytes_at buffer r.addrat (r.addrlen - 4)) r.port
        (every_take is_byte (r.addrlen - 4) (drop r.addrat buffer) (every_drop is_byte r.addrat buffer are))
        (length-bytes_at buffer r.addrat (r.addrlen - 4) (rw (ne_eqb r.addrlen 0 some) at part))
        ((numbers_of r numbers).kind some)

    pub length_some : length (address_bytes (address_of r.addrlen (bytes_at buffer r.addrat (r.addrlen - 4)) r.port))
        ≡ 2 + length (bytes_at buffer r.addrat (r.addrlen - 4)) + length (vlq_bytes r.port)
    length_some = omega (arith, ap length address-some, length-append (bytes_at buffer r.addrat (r.addrlen - 4)) (vlq_bytes r.port))

    pub kind-byte : r.addrlen < 256
    kind-byte = ⊎_elim (λ (e : r.addrlen ≡ 8). omega (arith, e)) (λ (e : r.addrlen ≡ 20). omega (arith, e)) ((numbers_of r numbers).kind some)
