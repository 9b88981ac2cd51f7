-- Document 01, "Entries and handshakes" and the traps below "At the edges": a table of bytes with what is said of them.
use Rattle.std.specs.Prelude.{ℕ, List, [], ◌∷◌, ◌++◌, map, ◌≡◌, refl}
use Rattle.std.proofs.Math.Option.{Option, none, some}
use Rattle.wire.specs.Bytes.{big_endian_from, big_endian, same_bytes}
use Rattle.wire.specs.Reader.{Answer, got, refused, Segment, fold, list_of}
use Rattle.vlq_utf8.specs.Utf8.{lead_rows, lead_in, lead_of, utf8_from, utf8}
use Rattle.vlq.specs.Vlq.{groups, vlq, vlq_length}
use Rattle.vlq.specs.ShortString.{string, short_string}
use Rattle.types.specs.declared.Network.{Network}
use Rattle.types.specs.declared.Network.TheVariants.{Mainnet, Testnet}
use Rattle.types.specs.declared.Address.{Address}
use Rattle.types.specs.declared.Address.TheVariants.{None, V4, V6}
use Rattle.types.specs.Order.{then_by, below}
use Rattle.handshake.specs.Entry.{version, address_of, address, address_if, feature, entry, handshake}
use Rattle.handshake.specs.Value.{FeatureValue, EntryValue, HandshakeValue, feature_value, entry_value, handshake_value}
use Rattle.handshake.specs.Verdict.{first_feature, other_magic, validate_peer, string_from, url_of, rest_api_url}

-- bytes, and what is asked of them
pub data Asked : Type 0 where
  an_address a_feature an_entry a_handshake : List ℕ → Asked
  -- `validate_peer` for a network, and `rest_api_url`, of the entry
  a_verdict : Network → List ℕ → Asked
  a_url : List ℕ → Asked

-- a value and where it ends, a verdict, where a string stands, or a refusal
pub data Said : Type 0 where
  address_to : Address → ℕ → Said
  feature_to : FeatureValue → ℕ → Said
  entry_to : EntryValue → ℕ → Said
  handshake_to : HandshakeValue → ℕ → Said
  verdict : ℕ → Said
  url : ℕ → List ℕ → Said
  no_url : Said
  refusal : ℕ → Said

abbrev said : {A : Type 0} → (A → ℕ → Said) → Answer A → Said
said f (got a next) = f a next
said f (refused m) = refusal m

abbrev url_said : Option Segment → Said
url_said none = no_url
url_said (some g) = url g.start g.bytes

unfoldable pub said_of : Asked → Said
said_of (an_address s) = said address_to (address s 0)
said_of (a_feature s) = said (λ f. feature_to (feature_value f)) (feature s 0)
said_of (an_entry s) = said (λ e. entry_to (entry_value e)) (entry s 0)
said_of (a_handshake s) = said (λ h. handshake_to (handshake_value h)) (handshake s 0)
said_of (a_verdict network s) = said (λ e next. verdict (validate_peer network e)) (entry s 0)
said_of (a_url s) = said (λ e next. url_said (rest_api_url e)) (entry s 0)

pub record Case : Type 0 where
  pub asked : Asked
  pub says : Said

abbrev case : Asked → Said → Case
case a s = record { asked = a; says = s }

-- an entry of this version with no strings and no address: as many features as the count says stand in the bytes after it
abbrev plain : ℕ → ℕ → ℕ → ℕ → List ℕ → List ℕ
plain major minor patch count features = 0 ∷ major ∷ minor ∷ patch ∷ 0 ∷ 0 ∷ count ∷ features

abbrev sixteen : List ℕ
sixteen = 0x20 ∷ 1 ∷ 0xd ∷ 0xb8 ∷ 0 ∷ 0 ∷ 0 ∷ 0 ∷ 0 ∷ 0 ∷ 0 ∷ 0 ∷ 0 ∷ 0 ∷ 0 ∷ 9 ∷ []

unfoldable pub cases : List Case
cases =
    -- the port is kept modulo 65,536: 65,535, 65,536 and one more
    case (an_address (8 ∷ 10 ∷ 0 ∷ 0 ∷ 1 ∷ 0xff ∷ 0xff ∷ 3 ∷ [])) (address_to (V4 0x0a000001 65535) 8)
    ∷ case (an_address (20 ∷ (sixteen ++ (0x80 ∷ 0x80 ∷ 4 ∷ [])))) (address_to (V6 0x20010db800000000 9 0) 20)
    ∷ case (an_address (8 ∷ 10 ∷ 0 ∷ 0 ∷ 1 ∷ 0x81 ∷ 0x80 ∷ 4 ∷ [])) (address_to (V4 0x0a000001 1) 8)
    -- L = 8 and L = 20, by value; the last byte is not the address's
    ∷ case (an_address (8 ∷ 10 ∷ 0 ∷ 0 ∷ 1 ∷ 0xce ∷ 0x46 ∷ 7 ∷ [])) (address_to (V4 0x0a000001 9038) 7)
    ∷ case (an_address (20 ∷ (sixteen ++ (0xce ∷ 0x46 ∷ 7 ∷ [])))) (address_to (V6 0x20010db800000000 9 9038) 19)
    -- any other L: no address, its bytes and port consumed
    ∷ case (an_address (4 ∷ 0 ∷ [])) (address_to None 2)
    ∷ case (an_address (5 ∷ 0 ∷ 0 ∷ [])) (address_to None 3)
    ∷ case (an_address (7 ∷ 1 ∷ 2 ∷ 3 ∷ 0xce ∷ 0x46 ∷ 7 ∷ [])) (address_to None 6)
    ∷ case (an_address (21 ∷ 1 ∷ (sixteen ++ (0xce ∷ 0x46 ∷ 7 ∷ [])))) (address_to None 20)
    -- a feature's length is under the limit: 16,388,608 is asked for bytes, one more is refused
    ∷ case (a_feature (16 ∷ 0x80 ∷ 0xa4 ∷ 0xe8 ∷ 7 ∷ [])) (refusal 1)
    ∷ case (a_feature (16 ∷ 0x81 ∷ 0xa4 ∷ 0xe8 ∷ 7 ∷ [])) (refusal 3)
    ∷ case (a_feature (16 ∷ 2 ∷ 5 ∷ 6 ∷ 7 ∷ [])) (feature_to (record { id = 16; body = 5 ∷ 6 ∷ [] }) 4)
    -- an address follows any flag but 0
    ∷ case (an_entry (0 ∷ 4 ∷ 5 ∷ 6 ∷ 0 ∷ 2 ∷ 8 ∷ 10 ∷ 0 ∷ 0 ∷ 1 ∷ 80 ∷ 0 ∷ []))
    (entry_to (record { agent = []; version = record { major = 4; minor = 5; patch = 6 }; name = []; address = V4 0x0a000001 80; features = [] }) 13)
    -- the handshake of the program's example
    ∷ case (a_handshake (0xac ∷ 2 ∷ 2 ∷ 0x61 ∷ 0x62 ∷ 6 ∷ 0 ∷ 1 ∷ 0 ∷ 0 ∷ 0 ∷ 1 ∷ []))
    (handshake_to (record {
      timestamp = 300;
      entry = record {
        agent = 0x61 ∷ 0x62 ∷ [];
        version = record { major = 6; minor = 0; patch = 1 };
        name = [];
        address = None;
        features = [];
      };
    }) 11)
    ∷ case (a_handshake (0xac ∷ 2 ∷ 2 ∷ 0x61 ∷ 0x62 ∷ 6 ∷ 0 ∷ 1 ∷ 0 ∷ 0 ∷ [])) (refusal 1)
    -- 1 if the version is below 4.0.100
    ∷ case (a_verdict Mainnet (plain 3 255 255 0 [])) (verdict 1)
    ∷ case (a_verdict Mainnet (plain 4 1 0 0 [])) (verdict 0)
    ∷ case (a_verdict Mainnet (plain 4 0 99 1 (3 ∷ 4 ∷ 2 ∷ 3 ∷ 2 ∷ 3 ∷ []))) (verdict 1)
    -- 2 if the first feature 3 has at least four body bytes and they aren't the magic
    ∷ case (a_verdict Mainnet (plain 4 0 100 1 (3 ∷ 4 ∷ 2 ∷ 3 ∷ 2 ∷ 3 ∷ []))) (verdict 2)
    ∷ case (a_verdict Testnet (plain 4 0 100 1 (3 ∷ 4 ∷ 2 ∷ 3 ∷ 2 ∷ 3 ∷ []))) (verdict 0)
    ∷ case (a_verdict Mainnet (plain 4 0 100 2 (16 ∷ 0 ∷ 3 ∷ 5 ∷ 1 ∷ 0 ∷ 2 ∷ 4 ∷ 9 ∷ []))) (verdict 0)
    ∷ case (a_verdict Testnet (plain 4 0 100 2 (16 ∷ 0 ∷ 3 ∷ 5 ∷ 1 ∷ 0 ∷ 2 ∷ 4 ∷ 9 ∷ []))) (verdict 2)
    -- no later feature 3 is looked at when the first is short
    ∷ case (a_verdict Mainnet (plain 4 0 100 1 (3 ∷ 3 ∷ 2 ∷ 3 ∷ 2 ∷ []))) (verdict 0)
    ∷ case (a_verdict Mainnet (plain 4 0 100 2 (3 ∷ 3 ∷ 2 ∷ 3 ∷ 2 ∷ 3 ∷ 4 ∷ 2 ∷ 3 ∷ 2 ∷ 3 ∷ []))) (verdict 0)
    -- the first feature 4: a length byte and that much UTF-8 within the body; otherwise none
    ∷ case (a_url (plain 4 0 100 0 [])) no_url
    ∷ case (a_url (plain 4 0 100 1 (4 ∷ 0 ∷ []))) no_url
    ∷ case (a_url (plain 4 0 100 1 (4 ∷ 3 ∷ 3 ∷ 0x61 ∷ 0x62 ∷ []))) no_url
    ∷ case (a_url (plain 4 0 100 1 (4 ∷ 3 ∷ 2 ∷ 0xc0 ∷ 0x80 ∷ []))) no_url
    ∷ case (a_url (plain 4 0 100 1 (4 ∷ 3 ∷ 2 ∷ 0xc3 ∷ 0xa9 ∷ []))) (url 10 (0xc3 ∷ 0xa9 ∷ []))
    ∷ case (a_url (plain 4 0 100 2 (16 ∷ 0 ∷ 4 ∷ 3 ∷ 1 ∷ 0x61 ∷ 0x62 ∷ []))) (url 12 (0x61 ∷ []))
    ∷ case (a_url (plain 4 0 100 2 (4 ∷ 0 ∷ 4 ∷ 2 ∷ 1 ∷ 0x61 ∷ []))) no_url
    ∷ []

pub all-cases : map (λ (c : Case). said_of c.asked) cases ≡ map (λ (c : Case). c.says) cases
unfolding cases said_of
    big_endian_from big_endian same_bytes fold list_of lead_rows lead_in lead_of utf8_from utf8 groups vlq vlq_length string short_string then_by below
    version address_of address address_if feature entry handshake feature_value entry_value handshake_value
    first_feature other_magic validate_peer string_from url_of rest_api_url
all-cases = refl
