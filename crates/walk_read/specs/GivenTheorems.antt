-- What holds of the answers that `step` gives of every session, for every network and Peers cap. The statements alone;
-- `GivenTheoremsProved` proves them.
use Rattle.std.specs.Prelude.{ℕ, ◌+◌, ◌≤◌, List, ◌↔◌, ◌≡◌, length, take}
use Rattle.wire.specs.Reader.{got, list_of, map_answer}
use Rattle.types.specs.declared.Network.{Network}
use Rattle.handshake.specs.Entry.{entry, feature}
use Rattle.handshake_read.specs.Answers.{peer_spec_of}
use Rattle.handshake_read.specs.Parts.{feature_at}
use Rattle.handshake_read.specs.Values.{entry_place}
use Rattle.frame_read.specs.Answers.{part_in}
use Rattle.frame_read.specs.declared.StreamPart.{StreamPart}
use Rattle.messages.specs.Message.{payload_after}
use Rattle.messages_inventory_read.specs.Parts.{id_at}
use Rattle.messages_response_read.specs.Parts.{payload_at}
use Rattle.messages_peers_read.specs.Parts.{entry_at}
use Rattle.walk.specs.Walk.{Reading}
use Rattle.walk.specs.CutRule.{CutRule}
use Rattle.walk_read.specs.declared.HandshakeItem.{HandshakeItem}
use Rattle.walk_read.specs.declared.MessageItem.{MessageItem}
use Rattle.walk_read.specs.declared.StepRead.{StepRead}
use Rattle.walk_read.specs.declared.StepRead.TheVariants as StepReads
use Rattle.walk_read.specs.Given.{given, GivenFrom, given_reading}

-- The body named by an answer over `whole` stands in `part` too, and the readers by index, and those from a place on, read
-- the same of it.
pub record SameBody (cap : ℕ) (part whole : List ℕ) (body : StreamPart) : Type 0 where
  pub inside : body.start.0 + body.len ≤ length part
  pub bytes : part_in part body ≡ part_in whole body
  pub id_by_index : (index : ℕ) → id_at index (part_in part body) ≡ id_at index (part_in whole body)
  pub payload_by_index : (index : ℕ) → payload_at index (part_in part body) ≡ payload_at index (part_in whole body)
  pub entry_by_index : (index : ℕ) → entry_at cap index (part_in part body) ≡ entry_at cap index (part_in whole body)
  pub feature_by_index : (index at : ℕ) → feature_at index (part_in part body) at ≡ feature_at index (part_in whole body) at
  pub read_payload :
      (total at : ℕ)
      → payload_after (length (part_in part body)) total (part_in part body) at
      ≡ payload_after (length (part_in whole body)) total (part_in whole body) at
  pub read_entry : (at : ℕ) → entry (part_in part body) at ≡ entry (part_in whole body) at
  pub read_feature : (at : ℕ) → feature (part_in part body) at ≡ feature (part_in whole body) at

-- The entry of the handshake is what is read at its place, and is the same in `part` as in `whole`: its features by index,
-- and those read one after the other from the first on.
pub record SameEntry (part whole : List ℕ) (i : HandshakeItem) : Type 0 where
  pub peer : map_answer peer_spec_of (entry whole (entry_place i.handshake.peer)) ≡ got i.handshake.peer i.end.0
  pub same : entry part (entry_place i.handshake.peer) ≡ entry whole (entry_place i.handshake.peer)
  pub feature_by_index : (index : ℕ) → feature_at index part (entry_place i.handshake.peer) ≡ feature_at index whole (entry_place i.handshake.peer)
  pub read_features :
      (n : ℕ) → n ≤ i.handshake.peer.features.count
      → list_of n (λ before. feature) part i.handshake.peer.features.start ≡ list_of n (λ before. feature) whole i.handshake.peer.features.start

module _ (network : Network) (cap : ℕ) where
  -- The answers of the code from place 0 on are the session's reading as it is given, and nothing else is.
  abbrev pub GivenAreReading : Type 0
  GivenAreReading = (s : List ℕ) (r : Reading StepRead) → GivenFrom network cap s 0 r ↔ (r ≡ given_reading network cap s)

  -- Given by a cut: the cut rule, over the answers of the code. An item holds the whole answer, so that those that end by
  -- the cut are equal in every number.
  abbrev pub GivenByCut : Type 0
  GivenByCut =
      (s : List ℕ) (k : ℕ) → k ≤ length s → (full part : Reading StepRead)
      → GivenFrom network cap s 0 full → GivenFrom network cap (take k s) 0 part → CutRule k full part

  -- What is reached by index: of every item, given at any place, that ends by the cut.
  abbrev pub ReachedByIndex : Type 0
  ReachedByIndex =
      (s : List ℕ) (k at : ℕ) → k ≤ length s →
      ((i : MessageItem) → given network cap s at ≡ StepReads.Message i → i.end.0 ≤ k → SameBody cap (take k s) s i.body)
      × ((i : HandshakeItem) → given network cap s at ≡ StepReads.Handshake i → i.end.0 ≤ k → SameEntry (take k s) s i)
