-- The writers of messages: what each is given, what that means by value, its questions, and the bytes it writes.
use Rattle.std.specs.Prelude.{ℕ, ◌+◌, ◌*◌, ◌/◌, Bool, true, ◌&&◌, List, [], ◌∷◌, map, length, get_or}
use Rattle.wire.specs.Bytes.{every}
use Rattle.wire.specs.Output.{ask, written, Written}
use Rattle.types.specs.declared.Network.{Network}
use Rattle.frame.specs.Frame.{frame_bytes}
use Rattle.handshake.specs.Tables.{Tables, rows, bytes_at, entry_rows, entries_of, whole_rows, tables_whole, inside, entry_inside}
use Rattle.messages.specs.Value.{PayloadValue, MessageValue, get_peers_value, peers_value, modifier_request_value, modifier_response_value, inv_value, sync_info_value, unknown_value, code_of, body_bytes, message_asked}
use Rattle.messages.specs.declared.PayloadRow.{PayloadRow}

-- ---- tables of ids and of payloads

-- a row is an id's place
abbrev pub id_places : List ℕ → List ℕ
id_places t = rows (λ k. get_or t k 0) 0 (length t)

unfoldable pub ids_of : List ℕ → List ℕ → List (List ℕ)
ids_of t buffer = map (λ at. bytes_at buffer at 32) (id_places t)

-- how many numbers a payload's row has in a table
abbrev pub payload_row_size : ℕ
payload_row_size = 3

-- a row is a payload's id place, place, length
abbrev pub payload_row : List ℕ → ℕ → PayloadRow
payload_row t k = record { id = get_or t (payload_row_size * k) 0; at = get_or t (payload_row_size * k + 1) 0; len = get_or t (payload_row_size * k + 2) 0 }

abbrev pub payload_rows : List ℕ → List PayloadRow
payload_rows t = rows (payload_row t) 0 (length t / payload_row_size)

unfoldable pub payload_from_row : List ℕ → PayloadRow → PayloadValue
payload_from_row buffer r = record { id = bytes_at buffer r.id 32; body = bytes_at buffer r.at r.len }

unfoldable pub payload_inside : List ℕ → PayloadRow → Bool
payload_inside buffer r = inside buffer r.id 32 && inside buffer r.at r.len

-- ---- a write of a message, as it is given

pub data MessageWrite : Type 0 where
  write_get_peers : MessageWrite
  write_peers : Tables → MessageWrite
  -- a type byte, a table and the buffer
  write_modifier_request : ℕ → List ℕ → List ℕ → MessageWrite
  write_modifier_response : ℕ → List ℕ → List ℕ → MessageWrite
  write_inv : ℕ → List ℕ → List ℕ → MessageWrite
  write_sync_info : List ℕ → MessageWrite
  -- a code and a body
  write_unknown : ℕ → List ℕ → MessageWrite

unfoldable pub value_of : MessageWrite → MessageValue
value_of write_get_peers = get_peers_value
value_of (write_peers ts) = peers_value (entries_of ts)
value_of (write_modifier_request type ids buffer) = modifier_request_value type (ids_of ids buffer)
value_of (write_modifier_response type payloads buffer) = modifier_response_value type (map (payload_from_row buffer) (payload_rows payloads))
value_of (write_inv type ids buffer) = inv_value type (ids_of ids buffer)
value_of (write_sync_info body) = sync_info_value body
value_of (write_unknown code body) = unknown_value code body

-- 16: whole rows, and every row's numbers
unfoldable pub message_whole : MessageWrite → Bool
message_whole write_get_peers = true
message_whole (write_peers ts) = tables_whole ts
message_whole (write_modifier_request type ids buffer) = true
message_whole (write_modifier_response type payloads buffer) = whole_rows payload_row_size payloads
message_whole (write_inv type ids buffer) = true
message_whole (write_sync_info body) = true
message_whole (write_unknown code body) = true

-- 12: each written part in the buffer
unfoldable pub message_inside : MessageWrite → Bool
message_inside write_get_peers = true
message_inside (write_peers ts) = every (entry_inside ts) (entry_rows ts)
message_inside (write_modifier_request type ids buffer) = every (λ at. inside buffer at 32) (id_places ids)
message_inside (write_modifier_response type payloads buffer) = every (payload_inside buffer) (payload_rows payloads)
message_inside (write_inv type ids buffer) = every (λ at. inside buffer at 32) (id_places ids)
message_inside (write_sync_info body) = true
message_inside (write_unknown code body) = true

-- a message as its whole frame
abbrev pub message_bytes : Network → MessageValue → List ℕ
message_bytes network m = frame_bytes network (code_of m) (body_bytes m)

unfoldable pub message_written : Network → ℕ → MessageWrite → List ℕ → ℕ → Written
message_written network cap w out at =
    written (ask 16 (message_whole w) ∷ []) (ask 12 (message_inside w) ∷ message_asked cap (value_of w)) out at (message_bytes network (value_of w))
