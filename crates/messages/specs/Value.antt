-- Messages by value: what a reading says apart from its places, the code and body of a value (document 01, "Messages"), and the questions a writer
-- asks of the values (document 01, "Questions", Writers, from 13 on).
use Rattle.std.specs.Prelude.{ℕ, Bool, true, not, ◌&&◌, eqb, leb, length}
use mathlib.Core.List.{List, [], ◌∷◌, ◌++◌, map, flat_map}
use Rattle.wire.specs.Bytes.{every}
use Rattle.wire.specs.Output.{Question, ask}
use Rattle.wire.specs.Reader.{Segment}
use Rattle.vlq.specs.Vlq.{limit, vlq_bytes}
use Rattle.handshake.specs.Value.{EntryValue, entry_value, entry_bytes, entries_asked}
use Rattle.messages.specs.Message.{Payload, Message, get_peers, peers, modifier_request, modifier_response, inv, sync_info, unknown, max_inv_objects}

pub record PayloadValue : Type 0 where
  pub id : List ℕ
  pub body : List ℕ

pub data MessageValue : Type 0 where
  get_peers_value : MessageValue
  peers_value : List EntryValue → MessageValue
  modifier_request_value : ℕ → List (List ℕ) → MessageValue
  modifier_response_value : ℕ → List PayloadValue → MessageValue
  inv_value : ℕ → List (List ℕ) → MessageValue
  sync_info_value : List ℕ → MessageValue
  unknown_value : ℕ → List ℕ → MessageValue

-- what a reading of a body with a code says
unfoldable pub payload_value : Payload → PayloadValue
payload_value p = record { id = p.id.bytes; body = p.body.bytes }

unfoldable pub message_value : ℕ → Message → MessageValue
message_value code get_peers = get_peers_value
message_value code (peers es) = peers_value (map entry_value es)
message_value code (modifier_request type ids) = modifier_request_value type (map (λ (g : Segment). g.bytes) ids)
message_value code (modifier_response type ps) = modifier_response_value type (map payload_value ps)
message_value code (inv type ids) = inv_value type (map (λ (g : Segment). g.bytes) ids)
message_value code (sync_info body) = sync_info_value body
message_value code (unknown body) = unknown_value code body

-- ---- the code and body of a value

unfoldable pub code_of : MessageValue → ℕ
code_of get_peers_value = 1
code_of (peers_value es) = 2
code_of (modifier_request_value type ids) = 22
code_of (modifier_response_value type ps) = 33
code_of (inv_value type ids) = 55
code_of (sync_info_value body) = 65
code_of (unknown_value code body) = code

unfoldable pub ids_bytes : ℕ → List (List ℕ) → List ℕ
ids_bytes type ids = type ∷ (vlq_bytes (length ids) ++ flat_map (λ id. id) ids)

unfoldable pub payload_bytes : PayloadValue → List ℕ
payload_bytes p = p.id ++ (vlq_bytes (length p.body) ++ p.body)

unfoldable pub body_bytes : MessageValue → List ℕ
body_bytes get_peers_value = []
body_bytes (peers_value es) = vlq_bytes (length es) ++ flat_map entry_bytes es
body_bytes (modifier_request_value type ids) = ids_bytes type ids
body_bytes (modifier_response_value type ps) = type ∷ (vlq_bytes (length ps) ++ flat_map payload_bytes ps)
body_bytes (inv_value type ids) = ids_bytes type ids
body_bytes (sync_info_value body) = body
body_bytes (unknown_value code body) = body

-- ---- the questions of a message, after 16 and 12

-- the entries, of which 13, 4, 15 and 3 are asked
unfoldable pub message_entries : MessageValue → List EntryValue
message_entries (peers_value es) = es
message_entries get_peers_value = []
message_entries (modifier_request_value type ids) = []
message_entries (modifier_response_value type ps) = []
message_entries (inv_value type ids) = []
message_entries (sync_info_value body) = []
message_entries (unknown_value code body) = []

-- 3: each payload's length
unfoldable pub payloads_within : MessageValue → Bool
payloads_within (modifier_response_value type ps) = every (λ p. leb (length p.body) limit) ps
payloads_within get_peers_value = true
payloads_within (peers_value es) = true
payloads_within (modifier_request_value type ids) = true
payloads_within (inv_value type ids) = true
payloads_within (sync_info_value body) = true
payloads_within (unknown_value code body) = true

-- 10
unfoldable pub count_within : ℕ → MessageValue → Bool
count_within cap get_peers_value = true
count_within cap (peers_value es) = leb (length es) cap
count_within cap (modifier_request_value type ids) = leb (length ids) max_inv_objects
count_within cap (modifier_response_value type ps) = leb (length ps) max_inv_objects
count_within cap (inv_value type ids) = leb (length ids) max_inv_objects
count_within cap (sync_info_value body) = true
count_within cap (unknown_value code body) = true

-- 15: none of the six codes
unfoldable pub unknown_code : ℕ → Bool
unknown_code code =
    not (eqb code 1) && (not (eqb code 2) && (not (eqb code 22) && (not (eqb code 33) && (not (eqb code 55) && not (eqb code 65)))))

unfoldable pub code_free : MessageValue → Bool
code_free (unknown_value code body) = unknown_code code
code_free get_peers_value = true
code_free (peers_value es) = true
code_free (modifier_request_value type ids) = true
code_free (modifier_response_value type ps) = true
code_free (inv_value type ids) = true
code_free (sync_info_value body) = true

unfoldable pub message_asked : ℕ → MessageValue → List Question
message_asked cap m =
    entries_asked (message_entries m)
    ++ (ask 3 (payloads_within m)
    ∷ ask 10 (count_within cap m)
    ∷ ask 7 (leb (length (body_bytes m)) limit)
    ∷ ask 15 (code_free m)
    ∷ [])
