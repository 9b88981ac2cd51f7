-- What the code gives of a reading: places, lengths and counts.
use Rattle.std.specs.Prelude.{ℕ, ◌+◌, length}
use Rattle.messages.specs.Message as Bodies
use Rattle.messages_response_read.specs.declared.Payload.{Payload}

abbrev pub payload_of : Bodies.Payload → Payload
payload_of p = record { id = record { 0 = p.id.start }; start = record { 0 = p.body.start }; len = length p.body.bytes }

-- a payload, and the lengths so far where `before` is their sum before it
abbrev pub payload_sum : ℕ → Bodies.Payload → Payload × ℕ
payload_sum before p = (payload_of p, before + length p.body.bytes)
