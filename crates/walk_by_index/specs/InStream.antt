-- What is reached by index from an item of the stream: what the reader by index gives of the bytes of its body, each place as a place in the stream
-- (document 01, "The session walk": one becomes the other only through the body's start).
use Rattle.std.specs.Prelude.{ℕ, ◌+◌, Bool, cond, List, leb, length, Result, Ok, Err}
use Rattle.wire.specs.Reader.{Answer, got, refused, bind, map_answer}
use Rattle.wire.specs.Refusals.{number}
use Rattle.wire.specs.declared.Refusal.{Refusal}
use Rattle.types.specs.Places.{located}
use Rattle.types.specs.declared.StreamPlace.{StreamPlace}
use Rattle.handshake_read.specs.Answers.{peer_spec_of}
use Rattle.handshake_read.specs.declared.PeerSpec.{PeerSpec}
use Rattle.frame_read.specs.Answers.{part_in}
use Rattle.frame_read.specs.declared.StreamPart.{StreamPart}
use Rattle.messages_inventory_read.specs.Answers.{id_of}
use Rattle.messages_response_read.specs.Answers.{payload_of}
use Rattle.messages_inventory_read.specs.Parts.{id_at}
use Rattle.messages_response_read.specs.Parts.{payload_at}
use Rattle.messages_response_read.specs.declared.Payload.{Payload}
use Rattle.messages_peers_read.specs.Parts.{entry_at}
use Rattle.walk_by_index.specs.declared.StreamEntry.{StreamEntry}
use Rattle.walk_by_index.specs.declared.StreamPayload.{StreamPayload}

-- 12: are all bytes of the part in the stream s?
unfoldable pub is_inside : List ℕ → StreamPart → Bool
is_inside s part = leb (part.start.0 + part.len) (length s)

-- ---- places of a body, as places in the stream

-- a place outside the body, which no reader gives, is refused
unfoldable pub in_stream : StreamPart → ℕ → Result StreamPlace Refusal
in_stream body at = located body.start body.len (record { 0 = at })

-- what follows a place: it goes on to f, a refusal stays
abbrev pub located_then : {B : Type 0} → Result StreamPlace Refusal → (StreamPlace → Answer B) → Answer B
located_then (Ok place) f = f place
located_then (Err m) f = refused (number m)

-- an entry, given the places of its agent, its name and its first feature; a payload, given those of its id and its bytes
abbrev pub stream_entry : PeerSpec → StreamPlace → StreamPlace → StreamPlace → StreamEntry
stream_entry p agent name first =
    record {
      agent = record { start = agent; len = p.agent.len };
      version = p.version;
      name = record { start = name; len = p.name.len };
      address = p.address;
      features = record { count = p.features.count; start = first };
    }

abbrev pub stream_payload : Payload → StreamPlace → StreamPlace → StreamPayload
stream_payload p id start = record { id = id; bytes = record { start = start; len = p.len } }

-- what was read of the body with its places in the stream, and where it ends there; `next` is where it ends in the body
unfoldable pub entry_to_stream : StreamPart → PeerSpec → ℕ → Answer StreamEntry
entry_to_stream body p next =
    located_then (in_stream body p.agent.start) (λ agent.
    located_then (in_stream body p.name.start) (λ name.
    located_then (in_stream body p.features.start) (λ first.
    located_then (in_stream body next) (λ end.
    got (stream_entry p agent name first) end.0))))

unfoldable pub id_to_stream : StreamPart → ℕ → ℕ → Answer StreamPlace
id_to_stream body at next =
    located_then (in_stream body at) (λ id.
    located_then (in_stream body next) (λ end.
    got id end.0))

unfoldable pub payload_to_stream : StreamPart → Payload → ℕ → Answer StreamPayload
payload_to_stream body p next =
    located_then (in_stream body p.id.0) (λ id.
    located_then (in_stream body p.start.0) (λ start.
    located_then (in_stream body next) (λ end.
    got (stream_payload p id start) end.0)))

-- ---- by index

-- an answer about a body: 12 where the body is not in the stream s; otherwise its value and its next place go on to f
unfoldable pub from_body : {A B : Type 0} → (A → ℕ → Answer B) → List ℕ → StreamPart → Answer A → Answer B
from_body f s body answer = cond (is_inside s body) (bind answer f) (refused 12)

unfoldable pub entry_in_stream : ℕ → ℕ → List ℕ → StreamPart → Answer StreamEntry
entry_in_stream cap index s body = from_body (entry_to_stream body) s body (map_answer peer_spec_of (entry_at cap index (part_in s body)))

unfoldable pub id_in_stream : ℕ → List ℕ → StreamPart → Answer StreamPlace
id_in_stream index s body = from_body (id_to_stream body) s body (map_answer id_of (id_at index (part_in s body)))

unfoldable pub payload_in_stream : ℕ → List ℕ → StreamPart → Answer StreamPayload
payload_in_stream index s body = from_body (payload_to_stream body) s body (map_answer payload_of (payload_at index (part_in s body)))
