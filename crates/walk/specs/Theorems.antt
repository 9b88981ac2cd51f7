-- What holds of every session, for every network and Peers cap. The statements alone; `TheoremsProved` proves them.
use Rattle.std.specs.Prelude.{ℕ, ◌*◌, ◌≤◌, List, [], ◌∷◌, ◌++◌, map, ◌↔◌, ◌⊎◌, ◌≡◌, T, length, take}
use Rattle.wire.specs.Bytes.{Each}
use Rattle.types.specs.declared.Network.{Network}
use Rattle.walk.specs.Walk.{Layer, Item, clean, stopped, Reading, is_cut}
use Rattle.walk.specs.CutRule.{CutRule}
use Rattle.walk.specs.Session.{Content, session_reading}
use Rattle.walk.specs.Places.{FieldsPlaced}
use Rattle.walk.specs.WrittenSession.{Write, write_value, Done, write_all, session_bytes, HandshakeFirst, item_values}
use Rattle.walk.specs.Calls.{Calls, StepsFrom}

-- each item starts where the last one ended, the first at a place
pub data Chained {F : Type 0} : ℕ → List (Item F) → Type 0 where
  end : {at : ℕ} → Chained at []
  link : {at : ℕ} {i : Item F} {is : List (Item F)} → i.start ≡ at → Chained i.end is → Chained at (i ∷ is)

module _ (network : Network) (cap : ℕ) where
  -- A session's reading is the answers of the steps from place 0, each next one at the last item's end, and nothing else is.
  abbrev pub StepsAreReading : Type 0
  StepsAreReading = (s : List ℕ) (r : Reading Content) → StepsFrom network cap s 0 r ↔ (r ≡ session_reading network cap s)

  -- The cut rule: for all bytes and every cut up to their length.
  abbrev pub CutAnywhere : Type 0
  CutAnywhere = (s : List ℕ) (k : ℕ) → k ≤ length s → CutRule k (session_reading network cap s) (session_reading network cap (take k s))

  -- The bytes of each item's fields stand at their places: a handshake's in the session's bytes, a message's in its body.
  abbrev pub PlacesHold : Type 0
  PlacesHold = (s : List ℕ) → Each (λ i. FieldsPlaced s i.end i.holds.fields) (session_reading network cap s).items

  -- The reading of s and then t goes on at a place: it has the items of s and then what the steps from that place on give,
  -- `rest`, and ends as they do.
  pub record GoesOn (s t : List ℕ) (at : ℕ) : Type 0 where
    pub rest : Reading Content
    pub steps : (r : Reading Content) → StepsFrom network cap (s ++ t) at r ↔ (r ≡ rest)
    pub whole : session_reading network cap (s ++ t) ≡ record { items = (session_reading network cap s).items ++ rest.items; ending = rest.ending }

  -- What t, coming after s, makes of the reading of s.
  pub record Grown (s t : List ℕ) : Type 0 where
    -- where the reading of s stops, on a cut or not, the reading goes on at that stop's place
    pub stops : (layer : Layer) (n at : ℕ) → (session_reading network cap s).ending ≡ stopped layer n at → GoesOn s t at
    -- where it ends cleanly, at the length of s
    pub ended : (session_reading network cap s).ending ≡ clean → GoesOn s t (length s)
    -- a stop that doesn't count as a cut stays, and the reading with it
    pub stays : (layer : Layer) (n at : ℕ) → (session_reading network cap s).ending ≡ stopped layer n at → ¬ (T (is_cut layer n))
        → session_reading network cap (s ++ t) ≡ session_reading network cap s

  -- A line that grows: for all bytes that have come, and all that come after them.
  abbrev pub LineGrows : Type 0
  LineGrows = (s t : List ℕ) → Grown s t

  -- Whatever a list of calls of our writers leaves, by their contracts, is what `write_all` says of the list.
  abbrev pub CallsAreWrites : Type 0
  CallsAreWrites = (ws : List Write) (out : List ℕ) (d : Done) → Calls network cap ws out 0 d → d ≡ write_all network cap ws out 0

  -- Written sessions: the bytes of every list of calls of our writers from the start of any output, refused ones included, in which exactly one
  -- handshake is accepted, before any message is, read as the accepted values, in order, and end cleanly.
  abbrev pub ReadsAsWritten : Type 0
  ReadsAsWritten =
      (ws : List Write) (out : List ℕ) (d : Done) → Calls network cap ws out 0 d → HandshakeFirst d.accepted
      → (item_values (session_reading network cap (session_bytes d)).items ≡ map write_value d.accepted)
      × ((session_reading network cap (session_bytes d)).ending ≡ clean)

  -- Two such lists whose written bytes are equal have equal accepted handshakes and messages.
  abbrev pub OneMeaning : Type 0
  OneMeaning =
      (ws ws' : List Write) (out out' : List ℕ) (d d' : Done) → Calls network cap ws out 0 d → Calls network cap ws' out' 0 d'
      → HandshakeFirst d.accepted → HandshakeFirst d'.accepted
      → session_bytes d ≡ session_bytes d' → map write_value d.accepted ≡ map write_value d'.accepted

  -- Every reading ends in a clean end or a stop; its items follow one another from 0 on; there is at most one for each eight bytes.
  abbrev pub Ends : Type 0
  Ends =
      (s : List ℕ) →
      (((session_reading network cap s).ending ≡ clean)
      ⊎ ((layer : Layer) × (n : ℕ) × (at : ℕ) × ((session_reading network cap s).ending ≡ stopped layer n at)))
      × Chained 0 (session_reading network cap s).items
      × (8 * length (session_reading network cap s).items ≤ length s)
