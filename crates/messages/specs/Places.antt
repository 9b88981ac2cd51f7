-- That the bytes of a message's reading stand at its places in the body: what a place and a length say of the body is what the reading says.
use Rattle.std.specs.Prelude.{ℕ, List, ◌≡◌, length}
use Rattle.wire.specs.Bytes.{Each}
use Rattle.wire.specs.Reader.{Segment}
use Rattle.wire.specs.ReadsBack.{Placed}
use Rattle.handshake.specs.Places.{EntryPlaced}
use Rattle.messages.specs.Message.{Payload, Message, get_peers, peers, modifier_request, modifier_response, inv, sync_info, unknown}

-- an id has 32 bytes
abbrev pub IdPlaced : List ℕ → Segment → Type 0
IdPlaced body id = (length id.bytes ≡ 32) × Placed body id

abbrev pub PayloadPlaced : List ℕ → Payload → Type 0
PayloadPlaced body p = IdPlaced body p.id × Placed body p.body

-- SyncInfo and Unknown hold the whole body as it is
unfoldable pub MessagePlaced : List ℕ → Message → Type 0
MessagePlaced body get_peers = Unit {0}
MessagePlaced body (peers es) = Each (EntryPlaced body) es
MessagePlaced body (modifier_request type ids) = Each (IdPlaced body) ids
MessagePlaced body (modifier_response type ps) = Each (PayloadPlaced body) ps
MessagePlaced body (inv type ids) = Each (IdPlaced body) ids
MessagePlaced body (sync_info bytes) = bytes ≡ body
MessagePlaced body (unknown bytes) = bytes ≡ body
