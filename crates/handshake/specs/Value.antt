-- Entries and handshakes by value: what a reading says apart from its places, the bytes of a value (document 01, "Entries and handshakes"),
-- and the questions a writer asks of the values (document 01, "Questions", Writers, from 13 on).
use Rattle.std.specs.Prelude.{ℕ, ◌^◌, ◌<◌, Bool, ◌&&◌, leb, length}
use mathlib.Core.List.{List, [], ◌∷◌, ◌++◌, map, flat_map}
use Rattle.wire.specs.Bytes.{big_endian_bytes, every}
use Rattle.wire.specs.Output.{Question, ask}
use Rattle.vlq_utf8.specs.Utf8.{utf8}
use Rattle.vlq.specs.Vlq.{limit, vlq_bytes}
use Rattle.vlq.specs.ShortString.{max_short_string, short_string_bytes}
use Rattle.types.specs.declared.Version.{Version}
use Rattle.types.specs.declared.Address.{Address}
use Rattle.types.specs.declared.Address.TheVariants.{None, V4, V6}
use Rattle.handshake.specs.Entry.{ipv4_length, ipv6_length, EntryFeature, Entry, EntryHandshake}

-- ---- values

pub record FeatureValue : Type 0 where
  pub id : ℕ
  pub body : List ℕ

pub record EntryValue : Type 0 where
  pub agent : List ℕ
  pub version : Version
  pub name : List ℕ
  pub address : Address
  pub features : List FeatureValue

pub record HandshakeValue : Type 0 where
  pub timestamp : ℕ
  pub entry : EntryValue

-- the numbers of an address are in the range of their types
unfoldable pub AddressTyped : Address → Type 0
AddressTyped None = Unit {0}
AddressTyped (V4 ip port) = (ip < 2 ^ 32) × (port < 2 ^ 16)
AddressTyped (V6 high low port) = (high < 2 ^ 64) × (low < 2 ^ 64) × (port < 2 ^ 16)

-- what a reading says
unfoldable pub feature_value : EntryFeature → FeatureValue
feature_value f = record { id = f.id; body = f.body.bytes }

unfoldable pub entry_value : Entry → EntryValue
entry_value e =
    record {
      agent = e.agent.bytes;
      version = e.version;
      name = e.name.bytes;
      address = e.address;
      features = map feature_value e.features;
    }

unfoldable pub handshake_value : EntryHandshake → HandshakeValue
handshake_value h = record { timestamp = h.timestamp; entry = entry_value h.entry }

-- ---- the bytes of a value

-- flag 0, or flag 1 with L 8 or 20, the address's bytes and the port
unfoldable pub address_bytes : Address → List ℕ
address_bytes None = 0 ∷ []
address_bytes (V4 ip port) = 1 ∷ ipv4_length ∷ (big_endian_bytes 4 ip ++ vlq_bytes port)
address_bytes (V6 high low port) = 1 ∷ ipv6_length ∷ (big_endian_bytes 8 high ++ (big_endian_bytes 8 low ++ vlq_bytes port))

unfoldable pub feature_bytes : FeatureValue → List ℕ
feature_bytes f = f.id ∷ (vlq_bytes (length f.body) ++ f.body)

unfoldable pub version_bytes : Version → List ℕ
version_bytes v = v.major ∷ v.minor ∷ v.patch ∷ []

unfoldable pub entry_bytes : EntryValue → List ℕ
entry_bytes e =
    short_string_bytes e.agent
    ++ (version_bytes e.version
    ++ (short_string_bytes e.name
    ++ (address_bytes e.address
    ++ (length e.features ∷ flat_map feature_bytes e.features))))

unfoldable pub handshake_bytes : HandshakeValue → List ℕ
handshake_bytes h = vlq_bytes h.timestamp ++ entry_bytes h.entry

-- ---- the questions of entries, each over all of them before the next

-- 13
unfoldable pub short_strings : EntryValue → Bool
short_strings e = leb (length e.agent) max_short_string && leb (length e.name) max_short_string

-- 4
unfoldable pub utf8_strings : EntryValue → Bool
utf8_strings e = utf8 e.agent && utf8 e.name

-- the most features of an entry, whose count is a byte
abbrev pub max_features : ℕ
max_features = 255

-- 15
unfoldable pub few_features : EntryValue → Bool
few_features e = leb (length e.features) max_features

-- 3
unfoldable pub lengths_within : EntryValue → Bool
lengths_within e = every (λ f. leb (length f.body) limit) e.features

unfoldable pub entries_asked : List EntryValue → List Question
entries_asked es =
    ask 13 (every short_strings es) ∷ ask 4 (every utf8_strings es) ∷ ask 15 (every few_features es) ∷ ask 3 (every lengths_within es) ∷ []
