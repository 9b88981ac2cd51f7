-- What the library was asked for, sentence by sentence, of sessions and of writes as a whole. Each sentence stands beside its statement, written out
-- over the reading of a session and over calls of our writers; `DemandsProved` derives it from the theorems, so that a weaker theorem doesn't serve.
use Rattle.std.specs.Prelude.{ℕ, ◌+◌, ◌≤◌, ◌↔◌, ◌⊎◌, ◌≡◌, length, take, drop}
use mathlib.Core.List.{List, [], ◌∷◌, ◌++◌, map, flat_map}
use Rattle.wire.specs.Bytes.{Each}
use Rattle.wire.specs.Reader.{Segment}
use Rattle.wire.specs.Output.{Written, To, Refused}
use Rattle.types.specs.declared.Network.{Network}
use Rattle.handshake.specs.Entry.{EntryFeature, Entry}
use Rattle.messages.specs.Message.{Payload, Message, get_peers, peers, modifier_request, modifier_response, inv, sync_info, unknown}
use Rattle.messages.specs.Writes.{MessageWrite, value_of}
use Rattle.walk.specs.Walk as Walk
use Rattle.walk.specs.Walk.{Layer, Item, clean, stopped, Reading}
use Rattle.walk.specs.Session.{Fields, handshake_fields, message_fields, Content, session_reading}
use Rattle.walk.specs.WrittenSession.{Write, write_message, Value, session_message, write_value, fields_value, AllTyped, write_bytes, Done, write_all}
use Rattle.walk.specs.Calls.{next_place, with_accepted, Called, Calls, StepsFrom}

-- `Exactly P part full`: part is exactly those of full of which P holds, in order
pub data Exactly {A : Type 0} (P : A → Type 0) : List A → List A → Type 0 where
  none : Exactly P [] []
  with : {a : A} {part full : List A} → P a → Exactly P part full → Exactly P (a ∷ part) (a ∷ full)
  without : {a : A} {part full : List A} → ¬ (P a) → Exactly P part full → Exactly P part (a ∷ full)

-- k is the end of one of the items
abbrev pub AnEnd : {F : Type 0} → ℕ → List (Item F) → Type 0
AnEnd {F} k is = (before : List (Item F)) × (i : Item F) × (after : List (Item F)) × (is ≡ before ++ (i ∷ after)) × (i.end ≡ k)

-- "A cut is 1 in the handshake, 5 or 8 in the frame; 1 in a body is no cut."
abbrev pub IsCut : Layer → ℕ → Type 0
IsCut layer n = ((layer ≡ Walk.handshake) × (n ≡ 1)) ⊎ ((layer ≡ Walk.frame) × ((n ≡ 5) ⊎ (n ≡ 8)))

-- the write of a handshake: none of a message
abbrev pub OfHandshake : Write → Type 0
OfHandshake w = (m : MessageWrite) → ¬ (w ≡ write_message m)

-- agent, name, and each feature's body
unfoldable pub entry_parts : Entry → List Segment
entry_parts e = e.agent ∷ e.name ∷ map (λ (f : EntryFeature). f.body) e.features

-- what of a message stands in its body, by places there
unfoldable pub message_parts : Message → List Segment
message_parts get_peers = []
message_parts (peers es) = flat_map entry_parts es
message_parts (modifier_request type ids) = ids
message_parts (modifier_response type ps) = flat_map (λ (p : Payload). p.id ∷ p.body ∷ []) ps
message_parts (inv type ids) = ids
message_parts (sync_info body) = record { start = 0; bytes = body } ∷ []
message_parts (unknown body) = record { start = 0; bytes = body } ∷ []

-- what of an item stands in the session, by places in the session
unfoldable pub item_parts : Fields → List Segment
item_parts (handshake_fields h) = entry_parts h.entry
item_parts (message_fields code start m) = map (λ (g : Segment). record { start = start + g.start; bytes = g.bytes }) (message_parts m)

module _ (network : Network) (cap : ℕ) where
  abbrev pub reading_of : List ℕ → Reading Content
  reading_of s = session_reading network cap s

  -- ---- 1

  -- "A buffer handed in as a [..] whole session, of any bytes and length, gets its reading or the one refusal number"
  abbrev pub Answered : Type 0
  Answered =
      (s : List ℕ) → ((reading_of s).ending ≡ clean) ⊎ ((layer : Layer) × (n : ℕ) × (at : ℕ) × ((reading_of s).ending ≡ stopped layer n at))

  -- "a refused write changes no byte of its output"
  abbrev pub RefusedLeaves : Type 0
  RefusedLeaves = (w : Write) (out left : List ℕ) (at n : ℕ) → Called network cap w out at (Refused n) left → left ≡ out

  -- "and a write that succeeds changes only the bytes it reports"
  abbrev pub ChangesItsBytes : Type 0
  ChangesItsBytes =
      (w : Write) (out left : List ℕ) (at end : ℕ) → Called network cap w out at (To end) left
      → (end ≡ at + length (write_bytes network cap w))
      × (end ≤ length out)
      × (length left ≡ length out)
      × (take at left ≡ take at out)
      × (take (length (write_bytes network cap w)) (drop at left) ≡ write_bytes network cap w)
      × (drop end left ≡ drop end out)

  -- ---- 3: "cut a session of any bytes at whichever byte."

  -- "The part before the cut gives exactly those items of the full reading that end by the cut, in order, with the same fields and verdicts."
  abbrev pub CutItems : Type 0
  CutItems = (s : List ℕ) (k : ℕ) → k ≤ length s → Exactly (λ i. i.end ≤ k) (reading_of (take k s)).items (reading_of s).items

  -- "It ends cleanly exactly when the cut is an item's end."
  abbrev pub CutCleanly : Type 0
  CutCleanly = (s : List ℕ) (k : ℕ) → k ≤ length s → ((reading_of (take k s)).ending ≡ clean) ↔ AnEnd k (reading_of s).items

  -- "Otherwise it stops where the last of those items ends, or at 0 if there are none;"
  abbrev pub CutStops : Type 0
  CutStops =
      (s : List ℕ) (k : ℕ) → k ≤ length s → ¬ (AnEnd k (reading_of s).items)
      → (layer : Layer) × (n : ℕ) × (at : ℕ)
      × ((reading_of (take k s)).ending ≡ stopped layer n at)
      × ((before : List (Item Content)) (last : Item Content) → (reading_of (take k s)).items ≡ before ++ (last ∷ []) → at ≡ last.end)
      × ((reading_of (take k s)).items ≡ [] → at ≡ 0)

  -- "and a stop that 01 doesn't count as a cut is the full reading's own, alike in layer, number and place."
  abbrev pub CutOwnStop : Type 0
  CutOwnStop =
      (s : List ℕ) (k : ℕ) → k ≤ length s → (layer : Layer) (n at : ℕ)
      → (reading_of (take k s)).ending ≡ stopped layer n at → ¬ (IsCut layer n) → (reading_of s).ending ≡ stopped layer n at

  -- "for every list of our handshake and message writes": however many there are, they can be called one after the other,
  abbrev pub EveryList : Type 0
  EveryList =
      (ws : List Write) → AllTyped ws → (out : List ℕ) (at : ℕ) → Calls network cap ws out at (write_all network cap ws out at)

  -- and a call that meets its writer's contract can stand before any calls that go on from what it left.
  abbrev pub CallsGoOn : Type 0
  CallsGoOn =
      (w : Write) (ws : List Write) (out left : List ℕ) (at : ℕ) (r : Written) (d : Done)
      → Called network cap w out at r left → Calls network cap ws left (next_place r at) d
      → Calls network cap (w ∷ ws) out at (record { out = d.out; at = d.at; accepted = with_accepted w r d.accepted })

  -- "And for every list of our handshake and message writes from the start of one output, refused ones included, in which exactly one handshake is
  -- accepted, before any message is: the bytes written read as that handshake and the accepted messages, in order and by value, ending cleanly."
  abbrev pub WritesRead : Type 0
  WritesRead =
      (ws : List Write) (out : List ℕ) (d : Done) → Calls network cap ws out 0 d
      → (h : Write) (ms : List MessageWrite) → OfHandshake h → d.accepted ≡ h ∷ map write_message ms
      → (map (λ i. fields_value i.holds.fields) (reading_of (take d.at d.out)).items ≡ write_value h ∷ map (λ m. session_message (value_of m)) ms)
      × ((reading_of (take d.at d.out)).ending ≡ clean)

  -- "Two such lists whose written bytes are equal have equal accepted handshakes and messages."
  abbrev pub EqualBytes : Type 0
  EqualBytes =
      (ws ws' : List Write) (out out' : List ℕ) (d d' : Done) → Calls network cap ws out 0 d → Calls network cap ws' out' 0 d'
      → (h h' : Write) (ms ms' : List MessageWrite) → OfHandshake h → OfHandshake h'
      → d.accepted ≡ h ∷ map write_message ms → d'.accepted ≡ h' ∷ map write_message ms'
      → take d.at d.out ≡ take d'.at d'.out
      → (write_value h ≡ write_value h') × (map value_of ms ≡ map value_of ms')

  -- ---- a line that grows

  -- the reading of s ++ t has the items of s and then those of the steps from a place on, and ends as they do; and these steps come to an end
  abbrev pub ReadsOn : List ℕ → List ℕ → ℕ → Type 0
  ReadsOn s t at =
      ((r : Reading Content) → StepsFrom network cap (s ++ t) at r
      → ((reading_of (s ++ t)).items ≡ (reading_of s).items ++ r.items) × ((reading_of (s ++ t)).ending ≡ r.ending))
      × ((r : Reading Content) × StepsFrom network cap (s ++ t) at r)

  -- "where the reading of `s` stops on a cut, the reading of `s ++ t` has the items of `s` and then those of the steps from that stop's place on;
  abbrev pub GrowsAtCut : Type 0
  GrowsAtCut = (s t : List ℕ) (layer : Layer) (n at : ℕ) → (reading_of s).ending ≡ stopped layer n at → IsCut layer n → ReadsOn s t at

  -- where it ends cleanly, from the length on;
  abbrev pub GrowsAtEnd : Type 0
  GrowsAtEnd = (s t : List ℕ) → (reading_of s).ending ≡ clean → ReadsOn s t (length s)

  -- and a stop that is no cut stays as it is"
  abbrev pub StopStays : Type 0
  StopStays =
      (s t : List ℕ) (layer : Layer) (n at : ℕ) → (reading_of s).ending ≡ stopped layer n at → ¬ (IsCut layer n)
      → ((reading_of (s ++ t)).items ≡ (reading_of s).items) × ((reading_of (s ++ t)).ending ≡ stopped layer n at)

  -- ---- places

  -- "every segment of a reading of `s` has the bytes that stand at its place in `s`", a message's through the start of its body
  abbrev pub PartsStand : Type 0
  PartsStand =
      (s : List ℕ) → Each (λ i. Each (λ g. take (length g.bytes) (drop g.start s) ≡ g.bytes) (item_parts i.holds.fields)) (reading_of s).items
