-- The payloads that a caller puts together from what the code gives of a body alone: the bytes at the places that the
-- reader by index gives, for each index below the given count.
use Rattle.std.specs.Prelude.{ℕ, List}
use Rattle.wire.specs.Reader.{map_answer}
use Rattle.handshake.specs.ByIndex.{by_index}
use Rattle.handshake.specs.Tables.{bytes_at}
use Rattle.messages.specs.Value.{PayloadValue}
use Rattle.messages_inventory_read.specs.Values.{id_given}
use Rattle.messages_response_read.specs.Answers.{payload_of}
use Rattle.messages_response_read.specs.Parts.{payload_at}
use Rattle.messages_response_read.specs.declared.Payload.{Payload}

unfoldable pub payload_given : List ℕ → Payload → PayloadValue
payload_given body p = record { id = id_given body p.id.0; body = bytes_at body p.start.0 p.len }

unfoldable pub payloads_given : List ℕ → ℕ → List PayloadValue
payloads_given body n = by_index (payload_given body) (λ k. map_answer payload_of (payload_at k body)) n
