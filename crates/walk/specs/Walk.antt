-- The session walk (document 01, "The session walk") over two readers of items: the handshake at place 0, and the message at any other place.
-- `step` is the answer at one place; `reading` is the answers of the steps from place 0, each next one at the last item's end.
-- An item takes a byte at least, so that one step more than there are bytes is enough: the count of `walk_in` is never met (`WalkLaws`).
use Rattle.std.specs.Prelude.{ℕ, zero, suc, ◌-◌, Bool, false, cond, ◌||◌, List, [], ◌∷◌, eqb, leb, length}

-- where a refusal was made
pub data Layer : Type 0 where
  handshake frame body : Layer

-- what is said of the item at a place: what it holds and where it ends, or the refusal's layer and number
pub data Opened (F : Type 0) : Type 0 where
  opened : F → ℕ → Opened F
  refused_in : Layer → ℕ → Opened F

-- an item: what it holds are its fields and verdict
pub record Item (F : Type 0) : Type 0 where
  pub start : ℕ
  pub end : ℕ
  pub holds : F

-- one step: an item, the clean end, a stop with its layer, number and place, or 12, which is no stop
pub data Step (F : Type 0) : Type 0 where
  item : Item F → Step F
  clean_end : Step F
  stop : Layer → ℕ → ℕ → Step F
  outside : Step F

-- how a reading ends; `unended` is for the count of `walk_in` and for 12, and no reading of a session has it
pub data Ending : Type 0 where
  clean : Ending
  stopped : Layer → ℕ → ℕ → Ending
  unended : Ending

pub record Reading (F : Type 0) : Type 0 where
  pub items : List (Item F)
  pub ending : Ending

-- a cut is 1 in the handshake, 5 or 8 in the frame; 1 in a body is no cut
unfoldable pub is_cut : Layer → ℕ → Bool
is_cut handshake n = eqb n 1
is_cut frame n = eqb n 5 || eqb n 8
is_cut body n = false

unfoldable pub step_to : {F : Type 0} → ℕ → Opened F → Step F
step_to at (opened f end) = item (record { start = at; end = end; holds = f })
step_to at (refused_in layer n) = stop layer n at

-- a step, and then the reading from the item's end on
unfoldable pub onward : {F : Type 0} → Step F → (ℕ → Reading F) → Reading F
onward (item i) next = record { items = i ∷ (next i.end).items; ending = (next i.end).ending }
onward clean_end next = record { items = []; ending = clean }
onward (stop layer n at) next = record { items = []; ending = stopped layer n at }
onward outside next = record { items = []; ending = unended }

module _ (F : Type 0) (handshake_at : List ℕ → Opened F) (message_at : List ℕ → ℕ → Opened F) where
  -- place 0 is a handshake; at a place equal to the length, unless that is 0, the walk ends cleanly; a place past the length is 12
  unfoldable pub step : List ℕ → ℕ → Step F
  step s zero = step_to zero (handshake_at s)
  step s (suc at) =
      cond (eqb (suc at) (length s)) clean_end (cond (leb (suc at) (length s)) (step_to (suc at) (message_at s (suc at))) outside)

  unfoldable pub walk_in : ℕ → List ℕ → ℕ → Reading F
  walk_in zero s at = record { items = []; ending = unended }
  walk_in (suc n) s at = onward (step s at) (λ end. walk_in n s end)

  -- the answers of the steps from a place on
  unfoldable pub walk : List ℕ → ℕ → Reading F
  walk s at = walk_in (suc (length s - at)) s at

  unfoldable pub reading : List ℕ → Reading F
  reading s = walk s 0
