-- A session of a network with a Peers cap (document 01, "The session walk"): what its items hold, and its reading.
use Rattle.std.specs.Prelude.{ℕ, List, length}
use Rattle.wire.specs.Reader.{Answer, got, refused}
use Rattle.types.specs.declared.Network.{Network}
use Rattle.handshake.specs.Entry.{EntryHandshake, handshake}
use Rattle.handshake.specs.Verdict.{validate_peer}
use Rattle.frame.specs.Frame.{BodyFrame, frame}
use Rattle.messages.specs.Bogus.{bogus_count}
use Rattle.messages.specs.Message.{Message, get_peers, peers, modifier_request, modifier_response, inv, sync_info, unknown, message}
use Rattle.walk.specs.Walk.{Opened, opened, refused_in, Step, Reading, step, reading}
use Rattle.walk.specs.Walk as Walk

-- the fields of an item: a handshake, or a frame's code and the place of its body with what the body holds
pub data Fields : Type 0 where
  handshake_fields : EntryHandshake → Fields
  message_fields : ℕ → ℕ → Message → Fields

-- the handshake's `validate_peer`; for Peers the entry count and how many have a bogus address; other messages have none
pub data Verdict : Type 0 where
  peer_verdict : ℕ → Verdict
  peers_verdict : ℕ → ℕ → Verdict
  no_verdict : Verdict

pub record Content : Type 0 where
  pub fields : Fields
  pub verdict : Verdict

module _ (network : Network) where
  unfoldable pub message_verdict : Message → Verdict
  message_verdict (peers es) = peers_verdict (length es) (bogus_count network es)
  message_verdict get_peers = no_verdict
  message_verdict (modifier_request type ids) = no_verdict
  message_verdict (modifier_response type ps) = no_verdict
  message_verdict (inv type ids) = no_verdict
  message_verdict (sync_info body) = no_verdict
  message_verdict (unknown body) = no_verdict

  unfoldable pub handshake_item : Answer EntryHandshake → Opened Content
  handshake_item (got h end) = opened (record { fields = handshake_fields h; verdict = peer_verdict (validate_peer network h.entry) }) end
  handshake_item (refused n) = refused_in Walk.handshake n

  -- a frame that ends at a place, opened as a message
  unfoldable pub message_item : BodyFrame → ℕ → Answer Message → Opened Content
  message_item f end (got m next) =
      opened (record { fields = message_fields f.code f.body.start m; verdict = message_verdict m }) end
  message_item f end (refused n) = refused_in Walk.body n

  unfoldable pub frame_item : ℕ → Answer BodyFrame → Opened Content
  frame_item cap (got f end) = message_item f end (message cap f.code f.body.bytes 0)
  frame_item cap (refused n) = refused_in Walk.frame n

  -- the handshake at place 0
  unfoldable pub handshake_at : List ℕ → Opened Content
  handshake_at s = handshake_item (handshake s 0)

  -- the frame at a place, opened as a message; the body is read from its own first byte on
  unfoldable pub message_at : ℕ → List ℕ → ℕ → Opened Content
  message_at cap s at = frame_item cap (frame network s at)

  -- the step takes the stream, network, Peers cap and a place
  unfoldable pub session_step : ℕ → List ℕ → ℕ → Step Content
  session_step cap s at = step Content handshake_at (message_at cap) s at

  unfoldable pub session_reading : ℕ → List ℕ → Reading Content
  session_reading cap s = reading Content handshake_at (message_at cap) s
