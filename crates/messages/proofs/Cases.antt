-- Document 01, "Messages" and "Questions", Body: what is read of message bodies at the edges, which codes are Unknown, and
-- the code and bytes of each message.
use Rattle.std.specs.Prelude.{ℕ, Bool, cond, not, ◌≡◌, refl, replicate}
use mathlib.Core.List.{List, [], ◌∷◌, ◌++◌, map, flat_map}
use Rattle.wire.specs.Reader.{Answer, got, refused, fold, list_of}
use Rattle.vlq_utf8.specs.Utf8.{utf8_from, utf8}
use Rattle.vlq.specs.Vlq.{groups, vlq, vlq_length, vlq_in, vlq_bytes}
use Rattle.vlq.specs.ShortString.{string, short_string}
use Rattle.types.specs.declared.Address.TheVariants.{None}
use Rattle.handshake.specs.Entry.{version, address_if, entry}
use Rattle.handshake.specs.Tables.{rows}
use Rattle.handshake.specs.Value.{address_bytes, feature_bytes, version_bytes, entry_bytes}
use Rattle.messages.specs.Message.{Message, get_peers, peers, modifier_request, modifier_response, inv, sync_info, unknown, count, inventory_header, ids, total, payload_after, payload, payloads, peers_body, whole_body, message}
use Rattle.messages.specs.Value.{MessageValue, get_peers_value, peers_value, modifier_request_value, modifier_response_value, inv_value, sync_info_value, unknown_value, code_of, ids_bytes, payload_bytes, body_bytes, unknown_code}

pub record Case : Type 0 where
  pub cap : ℕ
  pub code : ℕ
  pub body : List ℕ
  pub answer : Answer Message

abbrev case : ℕ → ℕ → List ℕ → Answer Message → Case
case cap code body answer = record { cap = cap; code = code; body = body; answer = answer }

-- an id: 32 bytes
abbrev id : List ℕ
id = replicate 32 0xab

unfoldable pub cases : List Case
cases =
    -- Inv: a type byte, a count, ids
    case 64 55 [] (refused 1)
    -- 3 is asked before 10
    ∷ case 64 55 (2 ∷ 0x80 ∷ 0xa4 ∷ 0xe8 ∷ 0x07 ∷ []) (refused 10)
    ∷ case 64 55 (2 ∷ 0x81 ∷ 0xa4 ∷ 0xe8 ∷ 0x07 ∷ []) (refused 3)
    -- an id has 32 bytes; bytes left over are ignored
    ∷ case 64 55 (2 ∷ 1 ∷ replicate 31 0xab) (refused 1)
    ∷ case 64 55 (2 ∷ 1 ∷ (id ++ (7 ∷ 7 ∷ []))) (got (inv 2 (record { start = 2; bytes = id } ∷ [])) 34)
    -- ModifierRequest: the same under its own code
    ∷ case 64 22 (2 ∷ 1 ∷ id) (got (modifier_request 2 (record { start = 2; bytes = id } ∷ [])) 34)
    ∷ case 64 22 (2 ∷ 0 ∷ []) (got (modifier_request 2 []) 2)
    ∷ case 64 22 (2 ∷ 0x90 ∷ 0x03 ∷ []) (refused 1)
    ∷ case 64 22 (2 ∷ 0x91 ∷ 0x03 ∷ []) (refused 10)
    -- ModifierResponse: a body of 35 bytes with one payload, declared longer than the body, and as long
    ∷ case 64 33 (2 ∷ 1 ∷ (id ++ (36 ∷ []))) (refused 11)
    ∷ case 64 33 (2 ∷ 1 ∷ (id ++ (35 ∷ []))) (refused 1)
    -- 3 is asked before 11: the limit, and one more
    ∷ case 64 33 (2 ∷ 1 ∷ (id ++ (0x80 ∷ 0xa4 ∷ 0xe8 ∷ 0x07 ∷ []))) (refused 11)
    ∷ case 64 33 (2 ∷ 1 ∷ (id ++ (0x81 ∷ 0xa4 ∷ 0xe8 ∷ 0x07 ∷ []))) (refused 3)
    -- the lengths are added up, the last one included: in a body of 69 bytes a payload of 1 byte, then one declared 69 or 68
    ∷ case 64 33 (2 ∷ 2 ∷ (id ++ (1 ∷ 7 ∷ (id ++ (69 ∷ []))))) (refused 11)
    ∷ case 64 33 (2 ∷ 2 ∷ (id ++ (1 ∷ 7 ∷ (id ++ (68 ∷ []))))) (refused 1)
    ∷ case 64 33 (2 ∷ 1 ∷ (id ++ (1 ∷ 7 ∷ 7 ∷ [])))
    (got (modifier_response 2 (record { id = record { start = 2; bytes = id }; body = record { start = 35; bytes = 7 ∷ [] } } ∷ [])) 36)
    ∷ case 64 33 (2 ∷ 0x90 ∷ 0x03 ∷ []) (refused 1)
    ∷ case 64 33 (2 ∷ 0x91 ∷ 0x03 ∷ []) (refused 10)
    -- Peers: the cap, which may be above 400
    ∷ case 64 2 (0 ∷ []) (got (peers []) 1)
    ∷ case 64 2 (64 ∷ []) (refused 1)
    ∷ case 64 2 (65 ∷ []) (refused 10)
    ∷ case 401 2 (0x91 ∷ 0x03 ∷ []) (refused 1)
    ∷ case 64 2 (0x81 ∷ 0xa4 ∷ 0xe8 ∷ 0x07 ∷ []) (refused 3)
    ∷ case 64 2 (1 ∷ 0 ∷ 6 ∷ 0 ∷ 1 ∷ 0 ∷ 0 ∷ 0 ∷ 7 ∷ [])
    (got (peers (record {
      agent = record { start = 2; bytes = [] };
      version = record { major = 6; minor = 0; patch = 1 };
      name = record { start = 6; bytes = [] };
      address = None;
      first = 8;
      features = [];
    } ∷ [])) 8)
    -- GetPeers ignores its body; SyncInfo and Unknown are the whole of it
    ∷ case 64 1 [] (got get_peers 0)
    ∷ case 64 1 (7 ∷ 7 ∷ []) (got get_peers 0)
    ∷ case 64 65 (7 ∷ 8 ∷ []) (got (sync_info (7 ∷ 8 ∷ [])) 2)
    ∷ case 64 66 (7 ∷ 8 ∷ []) (got (unknown (7 ∷ 8 ∷ [])) 2)
    ∷ case 64 0 [] (got (unknown []) 0)
    ∷ []

pub all-cases : map (λ (c : Case). message c.cap c.code c.body 0) cases ≡ map (λ (c : Case). c.answer) cases
unfolding cases message count inventory_header ids total payload_after payload payloads peers_body whole_body fold list_of groups vlq vlq_length string short_string utf8_from utf8 version address_if entry
all-cases = refl

-- a payload from a place, after others: the place, the id and the length come before 11, which an empty payload is asked too
pub payload_order : (payload_after 0 1 [] 1 ≡ refused 12) × (payload_after 0 1 [] 0 ≡ refused 1)
    × (payload_after 33 34 (id ++ (0 ∷ [])) 0 ≡ refused 11)
unfolding payload_after groups vlq vlq_length
payload_order = (refl, refl, refl)

-- ---- of all codes, those of the six messages, and the others

unfoldable pub among : (ℕ → Bool) → List ℕ → List ℕ
among test [] = []
among test (n ∷ ns) = cond (test n) (n ∷ among test ns) (among test ns)

abbrev codes : List ℕ
codes = rows (λ n. n) 0 256

abbrev six : List ℕ
six = 1 ∷ 2 ∷ 22 ∷ 33 ∷ 55 ∷ 65 ∷ []

-- a body of two bytes under each code
abbrev read_as : ℕ → Answer Message
read_as code = message 64 code (0 ∷ 0 ∷ []) 0

pub all_known : among (λ code. not (unknown_code code)) codes ≡ six
unfolding among rows unknown_code
all_known = refl

pub all_read : (map read_as (among unknown_code codes) ≡ replicate 250 (got (unknown (0 ∷ 0 ∷ [])) 2))
    × (map read_as six
    ≡ got get_peers 0
    ∷ got (peers []) 1
    ∷ got (modifier_request 0 []) 2
    ∷ got (modifier_response 0 []) 2
    ∷ got (inv 0 []) 2
    ∷ got (sync_info (0 ∷ 0 ∷ [])) 2
    ∷ [])
unfolding among rows unknown_code message count inventory_header ids payloads peers_body whole_body fold list_of groups vlq vlq_length
all_read = (refl, refl)

-- ---- a message's code and the bytes of its body

pub record WrittenCase : Type 0 where
  pub value : MessageValue
  pub code : ℕ
  pub body : List ℕ

abbrev written : MessageValue → ℕ → List ℕ → WrittenCase
written value code body = record { value = value; code = code; body = body }

unfoldable pub written_cases : List WrittenCase
written_cases =
    written get_peers_value 1 []
    ∷ written
    (peers_value (record { agent = []; version = record { major = 6; minor = 0; patch = 1 }; name = []; address = None; features = [] } ∷ []))
    2 (1 ∷ 0 ∷ 6 ∷ 0 ∷ 1 ∷ 0 ∷ 0 ∷ 0 ∷ [])
    ∷ written (modifier_request_value 2 (id ∷ [])) 22 (2 ∷ 1 ∷ id)
    ∷ written (modifier_response_value 2 (record { id = id; body = 7 ∷ [] } ∷ [])) 33 (2 ∷ 1 ∷ (id ++ (1 ∷ 7 ∷ [])))
    ∷ written (inv_value 2 []) 55 (2 ∷ 0 ∷ [])
    ∷ written (sync_info_value (7 ∷ 8 ∷ [])) 65 (7 ∷ 8 ∷ [])
    ∷ written (unknown_value 66 (7 ∷ 8 ∷ [])) 66 (7 ∷ 8 ∷ [])
    ∷ []

pub all_codes : map (λ (c : WrittenCase). code_of c.value) written_cases ≡ map (λ (c : WrittenCase). c.code) written_cases
unfolding written_cases code_of
all_codes = refl

pub all-bodies : map (λ (c : WrittenCase). body_bytes c.value) written_cases ≡ map (λ (c : WrittenCase). c.body) written_cases
unfolding written_cases body_bytes ids_bytes payload_bytes vlq_in vlq_bytes flat_map address_bytes feature_bytes version_bytes entry_bytes
all-bodies = refl
