-- Sessions told by calls, one after the other. Of our writers on one output: what each call returned and left, and of what types its arguments were,
-- as the contract of every writer ensures. Of the step: its answers from a place on. `write_all` and `session_reading` compute the same from the writes and
-- the bytes alone (`Theorems`: `CallsAreWrites`, `StepsAreReading`).
use Rattle.std.specs.Prelude.{ℕ, List, [], ◌∷◌, ◌≡◌}
use Rattle.wire.specs.Output.{output_after, Written, To, Refused}
use Rattle.types.specs.declared.Network.{Network}
use Rattle.walk.specs.Walk.{Layer, Item, Step, item, clean_end, stop, clean, stopped, Reading}
use Rattle.walk.specs.Session.{Content, session_step}
use Rattle.walk.specs.WrittenSession.{Write, Typed, said, write_bytes, Done}

-- ---- writes

-- where the next call starts: where this one ended if it was accepted, otherwise where it started
unfoldable pub next_place : Written → ℕ → ℕ
next_place (To end) at = end
next_place (Refused n) at = at

-- the accepted writes, with this one if it was accepted
unfoldable pub with_accepted : Write → Written → List Write → List Write
with_accepted w (To end) ws = w ∷ ws
with_accepted w (Refused n) ws = ws

module _ (network : Network) (cap : ℕ) where
  -- a call of the writer of w, given the output out and the place at, returned r and left the output as left
  pub record Called (w : Write) (out : List ℕ) (at : ℕ) (r : Written) (left : List ℕ) : Type 0 where
    pub answer : r ≡ said network cap w out at
    pub output : left ≡ output_after r out at (write_bytes network cap w)
    pub typed : Typed w

  -- calls one after the other, from the output out and the place at on: what they left, where the last accepted one ended, and the accepted ones
  pub data Calls : List Write → List ℕ → ℕ → Done → Type 0 where
    none : {out : List ℕ} {at : ℕ} → Calls [] out at (record { out = out; at = at; accepted = [] })
    call :
        {w : Write} {ws : List Write} {out left : List ℕ} {at : ℕ} {r : Written} {d : Done}
        → Called w out at r left
        → Calls ws left (next_place r at) d
        → Calls (w ∷ ws) out at (record { out = d.out; at = d.at; accepted = with_accepted w r d.accepted })

-- ---- steps

-- the answers of a step from a place on, each next one at the last item's end: items, then the clean end or the stop
pub data AnswersFrom {F : Type 0} (step : ℕ → Step F) : ℕ → Reading F → Type 0 where
  more :
      {at : ℕ} {i : Item F} {r : Reading F}
      → step at ≡ item i
      → AnswersFrom step i.end r
      → AnswersFrom step at (record { items = i ∷ r.items; ending = r.ending })
  over : {at : ℕ} → step at ≡ clean_end → AnswersFrom step at (record { items = []; ending = clean })
  stops :
      {at place n : ℕ} {layer : Layer}
      → step at ≡ stop layer n place
      → AnswersFrom step at (record { items = []; ending = stopped layer n place })

-- the answers of the steps of a session
abbrev pub StepsFrom : Network → ℕ → List ℕ → ℕ → Reading Content → Type 0
StepsFrom network cap s = AnswersFrom (session_step network cap s)
