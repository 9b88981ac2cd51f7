-- Document 01, "At the edges": every case marked *, in its order and under its own words, computed from the definitions
-- that the contracts cite. One lemma covers the table.
use Rattle.std.specs.Prelude.{ℕ, ◌-◌, ◌^◌, Bool, true, false, List, [], ◌∷◌, ◌≡◌, refl, ℤ, pos, neg_ℤ}
use Rattle.wire.specs.Bytes.{big_endian_from, big_endian}
use Rattle.wire.specs.Reader.{Answer, got, refused, map_answer, Segment, fold, list_of}
use Rattle.vlq_utf8.specs.Utf8.{lead_rows, lead_in, lead_of, utf8_from, utf8}
use Rattle.vlq.specs.Vlq.{groups, vlq, vlq_length, vlq_in, vlq_bytes}
use Rattle.vlq.specs.ShortString.{string, short_string}
use Rattle.vlq_zigzag.specs.Zigzag.{zigzag_encode, zigzag_decode}
use Rattle.types.specs.declared.Network.{Network}
use Rattle.types.specs.declared.Network.TheVariants.{Mainnet, Testnet}
use Rattle.types.specs.declared.ProxyMode.TheVariants.{Full}
use Rattle.types.specs.declared.Address.{Address}
use Rattle.types.specs.declared.Address.TheVariants.{None, V4}
use Rattle.types.specs.Order.{then_by, below}
use Rattle.address_sanity.specs.Ranges.{ipv4, always_v4, mainnet_v4}
use Rattle.address_sanity.specs.Bogus.{contains, some_contains, bogus}
use Rattle.handshake.specs.Entry.{version, address_of, address, address_if, entry}
use Rattle.handshake.specs.Verdict.{first_feature, other_magic, validate_peer}
use Rattle.handshake.specs.Writes.{Config, nipopow, mode_feature}
use Rattle.messages.specs.Message.{Message, inv, count, inventory_header, ids, message}

-- what a definition gives, and what document 01 says
pub record Case : Type 1 where
  pub Value : Type 0
  pub gives : Value
  pub says : Value

abbrev case : (A : Type 0) → A → A → Case
case A gives says = record { Value = A; gives = gives; says = says }

-- a number's VLQ: written as these bytes, and these bytes read as the number
abbrev written_as : ℕ → List ℕ → Case
written_as n bytes = case (List ℕ) (vlq_bytes n) bytes

abbrev read : List ℕ → Answer ℕ → Case
read bytes answer = case (Answer ℕ) (vlq bytes 0) answer

abbrev as_length : List ℕ → Answer ℕ → Case
as_length bytes answer = case (Answer ℕ) (vlq_length bytes 0) answer

-- nine bytes FF, then one more
abbrev nine_ff : ℕ → List ℕ
nine_ff b = 0xff ∷ 0xff ∷ 0xff ∷ 0xff ∷ 0xff ∷ 0xff ∷ 0xff ∷ 0xff ∷ 0xff ∷ b ∷ []

-- zigzag, over all integers; `one-to-one` (vlq_zigzag) has it at any width, with 32 and 64 bits as uses
abbrev encoded : ℤ → ℕ → Case
encoded n m = case ℕ (zigzag_encode n) m

abbrev decoded : ℕ → ℤ → Case
decoded m n = case ℤ (zigzag_decode m) n

abbrev a_string : List ℕ → Answer Segment → Case
a_string bytes answer = case (Answer Segment) (short_string bytes 0) answer

abbrev an_address : List ℕ → Answer Address → Case
an_address bytes answer = case (Answer Address) (address bytes 0) answer

-- the body of the feature Mode that `build` writes in Full
abbrev full : ℕ → Bool → ℤ → Config
full state_type verifying blocks_to_keep =
    record {
      network = Mainnet;
      mode = Full;
      state_type = state_type;
      verifying = verifying;
      blocks_to_keep = blocks_to_keep;
      agent = [];
      version = record { major = 6; minor = 0; patch = 1 };
      name = [];
      address = None;
      timestamp = 0;
      session_id = pos 0;
    }

abbrev a_mode : Config → List ℕ → Case
a_mode c body = case (List ℕ) (mode_feature c).body body

-- the verdict of an entry of this version with nothing else in it, and the entry's end
abbrev of_version : ℕ → ℕ → ℕ → ℕ → Case
of_version major minor patch verdict =
    case (Answer ℕ) (map_answer (validate_peer Mainnet) (entry (0 ∷ major ∷ minor ∷ patch ∷ 0 ∷ 0 ∷ 0 ∷ []) 0)) (got verdict 7)

abbrev an_inv : List ℕ → Answer Message → Case
an_inv body answer = case (Answer Message) (message 64 55 body 0) answer

abbrev is_bogus : ℕ → Network → Bool → Case
is_bogus ip network answer = case Bool (bogus (V4 ip 9030) network) answer

unfoldable pub cases : List Case
cases =
    -- 127 is 7F; 128 is 80 01; 300 is AC 02.
    written_as 127 (0x7f ∷ [])
    ∷ read (0x7f ∷ []) (got 127 1)
    ∷ written_as 128 (0x80 ∷ 0x01 ∷ [])
    ∷ read (0x80 ∷ 0x01 ∷ []) (got 128 2)
    ∷ written_as 300 (0xac ∷ 0x02 ∷ [])
    ∷ read (0xac ∷ 0x02 ∷ []) (got 300 2)
    -- 16,388,608 is 80 A4 E8 07; 81 A4 E8 07 as a length: 3.
    ∷ written_as 16388608 (0x80 ∷ 0xa4 ∷ 0xe8 ∷ 0x07 ∷ [])
    ∷ as_length (0x80 ∷ 0xa4 ∷ 0xe8 ∷ 0x07 ∷ []) (got 16388608 4)
    ∷ as_length (0x81 ∷ 0xa4 ∷ 0xe8 ∷ 0x07 ∷ []) (refused 3)
    -- Nine FF then 01, or then 7F: 2^64 - 1. Nine FF then 80: 2.
    ∷ read (nine_ff 0x01) (got (2 ^ 64 - 1) 10)
    ∷ read (nine_ff 0x7f) (got (2 ^ 64 - 1) 10)
    ∷ read (nine_ff 0x80) (refused 2)
    -- 80 00 reads as 0.
    ∷ read (0x80 ∷ 0x00 ∷ []) (got 0 2)
    -- Zigzag: -1 is 1, 1 is 2; lowest i64 is 2^64 - 1.
    ∷ encoded (neg_ℤ (pos 1)) 1
    ∷ decoded 1 (neg_ℤ (pos 1))
    ∷ encoded (pos 1) 2
    ∷ decoded 2 (pos 1)
    ∷ encoded (neg_ℤ (pos (2 ^ 63))) (2 ^ 64 - 1)
    ∷ decoded (2 ^ 64 - 1) (neg_ℤ (pos (2 ^ 63)))
    -- Strings: 02 C3 A9 passes; 02 C0 80 and 03 ED A0 80: 4.
    ∷ a_string (0x02 ∷ 0xc3 ∷ 0xa9 ∷ []) (got (record { start = 1; bytes = 0xc3 ∷ 0xa9 ∷ [] }) 3)
    ∷ a_string (0x02 ∷ 0xc0 ∷ 0x80 ∷ []) (refused 4)
    ∷ a_string (0x03 ∷ 0xed ∷ 0xa0 ∷ 0x80 ∷ []) (refused 4)
    -- Port 80 80 04 is 0. Address 03 00: none, two bytes consumed.
    ∷ an_address (8 ∷ 10 ∷ 0 ∷ 0 ∷ 1 ∷ 0x80 ∷ 0x80 ∷ 0x04 ∷ []) (got (V4 (ipv4 10 0 0 1) 0) 8)
    ∷ an_address (0x03 ∷ 0x00 ∷ []) (got None 2)
    -- Mode, Full, 0, verifying, -1: 00 01 00 01.
    ∷ a_mode (full 0 true (neg_ℤ (pos 1))) (0x00 ∷ 0x01 ∷ 0x00 ∷ 0x01 ∷ [])
    -- Version 4.0.99 gives 1, 4.0.100 passes.
    ∷ of_version 4 0 99 1
    ∷ of_version 4 0 100 0
    -- Inv 02 00 passes with no ids; 02 91 03 (401): 10; 02 90 03 alone: 1.
    ∷ an_inv (0x02 ∷ 0x00 ∷ []) (got (inv 2 []) 2)
    ∷ an_inv (0x02 ∷ 0x91 ∷ 0x03 ∷ []) (refused 10)
    ∷ an_inv (0x02 ∷ 0x90 ∷ 0x03 ∷ []) (refused 1)
    -- 172.31.255.255 is bogus on mainnet only; 172.32.0.0 nowhere.
    ∷ is_bogus (ipv4 172 31 255 255) Mainnet true
    ∷ is_bogus (ipv4 172 31 255 255) Testnet false
    ∷ is_bogus (ipv4 172 32 0 0) Mainnet false
    ∷ is_bogus (ipv4 172 32 0 0) Testnet false
    ∷ []

unfoldable pub EachAgrees : List Case → Type 0
EachAgrees [] = Unit {0}
EachAgrees (c ∷ cs) = (c.gives ≡ c.says) × EachAgrees cs
