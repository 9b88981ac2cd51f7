-- What the writer of ModifierResponse says of an output of len bytes, by sizes: the questions of `message_written` that
-- are not answered "yes" by what the message is.
-- Only for laws, proofs and private functions: no public contract and no theorem cites what follows.
use Rattle.std.specs.Prelude.{ℕ, ◌+◌, ◌/◌, Bool, List, [], ◌∷◌, map, leb, length}
use Rattle.wire.specs.Bytes.{every}
use Rattle.wire.specs.Output.{ask, Written}
use Rattle.vlq.specs.Vlq.{limit, vlq_bytes}
use Rattle.wire_output.specs.Asked.{written_for}
use Rattle.frame_write.specs.Asked.{frame_length}
use Rattle.handshake.specs.Tables.{whole_rows}
use Rattle.messages.specs.Message.{max_inv_objects}
use Rattle.messages.specs.Value.{PayloadValue, modifier_response_value, body_bytes}
use Rattle.messages.specs.Writes.{payload_row_size, payload_rows, payload_from_row, payload_inside}
use Rattle.messages.specs.declared.PayloadRow.{PayloadRow}

-- the payloads of a table
abbrev pub payloads_of : List ℕ → List ℕ → List PayloadValue
payloads_of payloads buffer = map (payload_from_row buffer) (payload_rows payloads)

-- a row's length within the limit
unfoldable pub row_within : PayloadRow → Bool
row_within row = leb row.len limit

-- a type byte, a table of payloads and the buffer, as a body
abbrev pub response_bytes : ℕ → List ℕ → List ℕ → List ℕ
response_bytes type payloads buffer = body_bytes (modifier_response_value type (payloads_of payloads buffer))

unfoldable pub response_written_for : ℕ → List ℕ → List ℕ → ℕ → ℕ → Written
response_written_for type payloads buffer len at =
    written_for
    (ask 16 (whole_rows payload_row_size payloads) ∷ [])
    (ask 12 (every (payload_inside buffer) (payload_rows payloads))
    ∷ ask 3 (every (λ p. leb (length p.body) limit) (payloads_of payloads buffer))
    ∷ ask 10 (leb (length payloads / payload_row_size) max_inv_objects)
    ∷ ask 7 (leb (length (response_bytes type payloads buffer)) limit)
    ∷ [])
    len at (frame_length (length (response_bytes type payloads buffer)))

-- an id, a length and the bytes
unfoldable pub row_length : PayloadRow → ℕ
row_length row = 32 + length (vlq_bytes row.len) + row.len

unfoldable pub rows_length : List PayloadRow → ℕ
rows_length [] = 0
rows_length (row ∷ l) = row_length row + rows_length l
