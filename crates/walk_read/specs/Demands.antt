-- What the library was asked for of sessions, said over the answers of its steps. Each sentence stands beside its statement; `DemandsProved` derives it
-- from the theorems on what is given, so that a weaker theorem doesn't serve.
use Rattle.std.specs.Prelude.{ℕ, ◌≤◌, List, [], ◌∷◌, ◌++◌, map, ◌↔◌, ◌≡◌, length, take}
use Rattle.wire.specs.Reader.{got, list_of}
use Rattle.types.specs.declared.Network.{Network}
use Rattle.handshake.specs.Entry.{Entry, entry}
use Rattle.handshake_read.specs.Parts.{feature_at}
use Rattle.handshake_read.specs.Values.{entry_place}
use Rattle.frame_read.specs.Answers.{part_in}
use Rattle.messages.specs.Writes.{MessageWrite, value_of}
use Rattle.messages_inventory_read.specs.Parts.{id_at}
use Rattle.messages_response_read.specs.Parts.{payload_at}
use Rattle.messages_peers_read.specs.Parts.{entry_at}
use Rattle.messages_peers_read.specs.declared.Peers.{Peers}
use Rattle.messages_read.specs.declared.Message.TheVariants as Messages
use Rattle.walk.specs.Session.{Content, session_reading}
use Rattle.walk.specs.Walk.{Layer, Item, clean, stopped, Reading}
use Rattle.walk.specs.WrittenSession.{Write, write_message, session_message, write_value, Done}
use Rattle.walk.specs.Calls.{Calls}
use Rattle.walk.specs.Demands.{Exactly, AnEnd, IsCut, OfHandshake}
use Rattle.walk_read.specs.Given.{given, GivenFrom}
use Rattle.walk_read.specs.Values.{given_values, verdict_given}
use Rattle.walk_read.specs.declared.HandshakeItem.{HandshakeItem}
use Rattle.walk_read.specs.declared.MessageItem.{MessageItem}
use Rattle.walk_read.specs.declared.StepRead.{StepRead}
use Rattle.walk_read.specs.declared.StepRead.TheVariants as StepReads

module _ (network : Network) (cap : ℕ) where
  -- "A buffer handed in as a [..] whole session, of any bytes and length, gets its reading": the steps from place 0 on come to an end
  abbrev pub GivenAnswered : Type 0
  GivenAnswered = (s : List ℕ) → (r : Reading StepRead) × GivenFrom network cap s 0 r

  -- ---- "cut a session of any bytes at whichever byte."

  -- `full` is the answers over s, and `part` those over its first k bytes
  pub record Cut (s : List ℕ) (k : ℕ) (full part : Reading StepRead) : Type 0 where
    pub within : k ≤ length s
    pub whole : GivenFrom network cap s 0 full
    pub before : GivenFrom network cap (take k s) 0 part

  -- "The part before the cut gives exactly those items of the full reading that end by the cut, in order, with the same fields and verdicts."
  abbrev pub GivenCutItems : Type 0
  GivenCutItems = (s : List ℕ) (k : ℕ) (full part : Reading StepRead) → Cut s k full part → Exactly (λ i. i.end ≤ k) part.items full.items

  -- "It ends cleanly exactly when the cut is an item's end."
  abbrev pub GivenCutCleanly : Type 0
  GivenCutCleanly = (s : List ℕ) (k : ℕ) (full part : Reading StepRead) → Cut s k full part → (part.ending ≡ clean) ↔ AnEnd k full.items

  -- "Otherwise it stops where the last of those items ends, or at 0 if there are none;"
  abbrev pub GivenCutStops : Type 0
  GivenCutStops =
      (s : List ℕ) (k : ℕ) (full part : Reading StepRead) → Cut s k full part → ¬ (AnEnd k full.items)
      → (layer : Layer) × (n : ℕ) × (at : ℕ)
      × (part.ending ≡ stopped layer n at)
      × ((before : List (Item StepRead)) (last : Item StepRead) → part.items ≡ before ++ (last ∷ []) → at ≡ last.end)
      × (part.items ≡ [] → at ≡ 0)

  -- "and a stop that 01 doesn't count as a cut is the full reading's own, alike in layer, number and place."
  abbrev pub GivenCutOwnStop : Type 0
  GivenCutOwnStop =
      (s : List ℕ) (k : ℕ) (full part : Reading StepRead) → Cut s k full part → (layer : Layer) (n at : ℕ)
      → part.ending ≡ stopped layer n at → ¬ (IsCut layer n) → full.ending ≡ stopped layer n at

  -- what is asked by index of a message that ends by the cut, or of a handshake, is answered over the part as over the whole
  abbrev pub CutByIndex : Type 0
  CutByIndex =
      (s : List ℕ) (k at index : ℕ) → k ≤ length s →
      ((i : MessageItem) → given network cap s at ≡ StepReads.Message i → i.end.0 ≤ k →
      (id_at index (part_in (take k s) i.body) ≡ id_at index (part_in s i.body))
      × (payload_at index (part_in (take k s) i.body) ≡ payload_at index (part_in s i.body))
      × (entry_at cap index (part_in (take k s) i.body) ≡ entry_at cap index (part_in s i.body)))
      × ((i : HandshakeItem) → given network cap s at ≡ StepReads.Handshake i → i.end.0 ≤ k →
      feature_at index (take k s) (entry_place i.handshake.peer) ≡ feature_at index s (entry_place i.handshake.peer))

  -- ---- what an answer says

  -- the answer that has as many before it as an item of the reading has its verdict
  abbrev pub VerdictInOrder : Type 0
  VerdictInOrder =
      (s : List ℕ) (r : Reading StepRead) → GivenFrom network cap s 0 r
      → (before after : List (Item StepRead)) (i : Item StepRead) → r.items ≡ before ++ (i ∷ after)
      → (before' after' : List (Item Content)) (j : Item Content) → (session_reading network cap s).items ≡ before' ++ (j ∷ after')
      → length before ≡ length before' → verdict_given i.holds ≡ j.holds.verdict

  -- from the place that Peers are given at, as many entries are read as are counted
  abbrev pub PeersFromPlace : Type 0
  PeersFromPlace =
      (s : List ℕ) (at : ℕ) (i : MessageItem) (p : Peers) → given network cap s at ≡ StepReads.Message i → i.message ≡ Messages.Peers p
      → (l : List Entry) × (end : ℕ) × (length l ≡ p.count) × (list_of p.count (λ before. entry) (part_in s i.body) p.start.0 ≡ got l end)

  -- ---- written sessions

  -- "And for every list of our handshake and message writes from the start of one output, refused ones included, in which exactly one handshake is
  -- accepted, before any message is: the bytes written read as that handshake and the accepted messages, in order and by value, ending cleanly."
  abbrev pub GivenWritesRead : Type 0
  GivenWritesRead =
      (ws : List Write) (out : List ℕ) (d : Done) → Calls network cap ws out 0 d
      → (h : Write) (ms : List MessageWrite) → OfHandshake h → d.accepted ≡ h ∷ map write_message ms
      → (r : Reading StepRead) → GivenFrom network cap (take d.at d.out) 0 r
      → (given_values cap (take d.at d.out) r.items ≡ write_value h ∷ map (λ m. session_message (value_of m)) ms) × (r.ending ≡ clean)

  -- ---- "a line that grows"

  -- "where the reading of `s` stops on a cut, the reading of `s ++ t` has the items of `s` and then those of the steps from that stop's place on;"
  abbrev pub GrowsFromStop : Type 0
  GrowsFromStop =
      (s t : List ℕ) (r q : Reading StepRead) (layer : Layer) (n at : ℕ)
      → GivenFrom network cap s 0 r → r.ending ≡ stopped layer n at → GivenFrom network cap (s ++ t) at q
      → GivenFrom network cap (s ++ t) 0 (record { items = r.items ++ q.items; ending = q.ending })

  -- "where it ends cleanly, from the length on;"
  abbrev pub GrowsFromEnd : Type 0
  GrowsFromEnd =
      (s t : List ℕ) (r q : Reading StepRead)
      → GivenFrom network cap s 0 r → r.ending ≡ clean → GivenFrom network cap (s ++ t) (length s) q
      → GivenFrom network cap (s ++ t) 0 (record { items = r.items ++ q.items; ending = q.ending })

  -- "and a stop that is no cut stays as it is."
  abbrev pub GivenStopStays : Type 0
  GivenStopStays =
      (s t : List ℕ) (r : Reading StepRead) (layer : Layer) (n at : ℕ)
      → GivenFrom network cap s 0 r → r.ending ≡ stopped layer n at → ¬ (IsCut layer n) → GivenFrom network cap (s ++ t) 0 r
