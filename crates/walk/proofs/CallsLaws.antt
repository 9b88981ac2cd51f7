-- A list of calls leaves what `write_all` says: by the list, each call's two equations put in for what it returned and left. The equations and the
-- ranges of numbers are those that the contracts of the writers state, which say cap 0 where the cap is not asked. And the answers of the steps are the reading: the walk from
-- a place is the step's answer there and the walk from its end (`walk_step`), and it comes to an end (`walks`).
use Prim.Native.Nat.{ℕ, ◌^◌, ◌≤◌, ◌<◌}
use Rattle.std.proofs.Common.{arith, ◌∙◌}
use Rattle.std.specs.Prelude.{true, ◌↔◌, ◌≡◌, ltb, length}
use mathlib.Core.List.{List}
use Rattle.std.proofs.Math.Path.{refl, sym}
use Rattle.wire.specs.Bytes.{every}
use Rattle.wire.specs.Output.{output_after, Written, To, Refused}
use Rattle.types.specs.declared.Network.{Network}
use Rattle.handshake.specs.Value.{AddressTyped, handshake_bytes}
use Rattle.handshake.specs.Tables.{Tables}
use Rattle.handshake.specs.Writes.{Config, built, built_written, handshake_at_row, handshake_written}
use Rattle.messages.specs.Writes.{MessageWrite, write_get_peers, write_peers, write_modifier_request, write_modifier_response, write_inv, write_sync_info, write_unknown, value_of, message_bytes, message_written}
use Rattle.messages.proofs.WritesLaws.{any-cap}
use Rattle.walk.specs.Walk.{Step, item, stop, Reading, step_to, onward, walk}
use Rattle.walk.specs.Session.{Content, handshake_at as handshakeOpened, message_at, session_step}
use Rattle.walk.proofs.WalkLaws as WalkLaws
use Rattle.walk.proofs.WalkLaws.{step_end, step_open, Walks, walks, walk-over, walk-stops, walk-goes, step-item, walk_step}
use Rattle.walk.proofs.SessionLaws.{session_readers}
use Rattle.walk.specs.WrittenSession as Session
use Rattle.walk.specs.WrittenSession.{Write, write_handshake, write_built, write_message, bytes_typed, MessageTyped, Typed, AllTyped, said, write_bytes, Done, after, write_all}
use Rattle.walk.specs.Calls.{next_place, with_accepted, Called, Calls, none, call, AnswersFrom, more, over, stops, StepsFrom}

-- ---- the contracts as calls

-- of a message that is no Peers nothing needs to be said
message-typed : (w : MessageWrite) → ((l : Tables) → w ≡ write_peers l → ⊥) → MessageTyped w
unfolding MessageTyped
message-typed (write_peers l) other = absurd (other l refl)
message-typed write_get_peers other = tt
message-typed (write_modifier_request type ids buffer) other = tt
message-typed (write_modifier_response type payloads buffer) other = tt
message-typed (write_inv type ids buffer) other = tt
message-typed (write_sync_info body) other = tt
message-typed (write_unknown code body) other = tt

module _ (network : Network) (cap : ℕ) {out left : List ℕ} {at : ℕ} {r : Written} where
  pub called-handshake :
      (timestamp : ℕ) (l : Tables) (k : ℕ)
      → r ≡ handshake_written timestamp l k out at
      → left ≡ output_after r out at (handshake_bytes (handshake_at_row timestamp l k))
      → (timestamp < 2 ^ 64) × (every (λ b. ltb b 256) l.buffer ≡ true)
      → Called network cap (write_handshake timestamp l k) out at r left
  unfolding said write_bytes Typed bytes_typed
  called-handshake timestamp l k a o t = record { answer = a; output = o; typed = t }

  pub called-built :
      (c : Config)
      → r ≡ built_written c out at
      → left ≡ output_after r out at (handshake_bytes (built c))
      → (c.timestamp < 2 ^ 64) × AddressTyped c.address
      → Called network cap (write_built c) out at r left
  unfolding said write_bytes Typed
  called-built c a o t = record { answer = a; output = o; typed = t }

  pub called-peers :
      (l : Tables)
      → r ≡ message_written network cap (write_peers l) out at
      → left ≡ output_after r out at (message_bytes network (value_of (write_peers l)))
      → every (λ b. ltb b 256) l.buffer ≡ true
      → Called network cap (write_message (write_peers l)) out at r left
  unfolding said write_bytes Typed MessageTyped bytes_typed
  called-peers l a o t = record { answer = a; output = o; typed = t }

  pub called-message :
      (w : MessageWrite)
      → ((l : Tables) → w ≡ write_peers l → ⊥)
      → r ≡ message_written network 0 w out at
      → left ≡ output_after r out at (message_bytes network (value_of w))
      → Called network cap (write_message w) out at r left
  unfolding said write_bytes Typed
  called-message w other a o = record { answer = a ∙ sym (any-cap network cap w other out at); output = o; typed = message-typed w other }

-- ---- a list of calls

-- what follows a write, from what the rest leaves
after-rest :
    (w : Write) (r : Written) (out : List ℕ) (at : ℕ) (next : List ℕ → ℕ → Done)
    → after w r out at next
    ≡ record { out = (next out (next_place r at)).out; at = (next out (next_place r at)).at; accepted = with_accepted w r (next out (next_place r at)).accepted }
unfolding after next_place with_accepted
after-rest w (To end) out at next = refl
after-rest w (Refused n) out at next = refl

module _ (network : Network) (cap : ℕ) where
  pub calls-write-all :
      {ws : List Write} {out : List ℕ} {at : ℕ} {d : Done}
      → Calls network cap ws out at d
      → d ≡ write_all network cap ws out at
  unfolding write_all
  calls-write-all none = refl
  calls-write-all (call {w} {ws} {out} {left} {at} {r} {d} c rest) =
      let e = calls-write-all rest in
      rw (after-rest, ← c.answer, ← c.output, ← e)

  pub calls_typed : {ws : List Write} {out : List ℕ} {at : ℕ} {d : Done} → Calls network cap ws out at d → AllTyped ws
  calls_typed none = Session.none
  calls_typed (call c rest) = Session.more c.typed (calls_typed rest)

  -- typed writes can be called, and leave that
  pub write_all_calls : {ws : List Write} → AllTyped ws → (out : List ℕ) (at : ℕ) → Calls network cap ws out at (write_all network cap ws out at)
  unfolding write_all
  write_all_calls Session.none out at = none
  write_all_calls (Session.more {w = w} {ws = ws} t ts) out at =
      let r : Written = said network cap w out at in
      let left : List ℕ = output_after r out at (write_bytes network cap w) in
      rw (after-rest w r left at (λ out at. write_all network cap ws out at))
      (call (record { answer = refl; output = refl; typed = t }) (write_all_calls ts left (next_place r at)))

-- ---- the answers of the steps

-- there is but one reading that they are
pub answers_once : {F : Type 0} {step : ℕ → Step F} {at : ℕ} {r w : Reading F} → AnswersFrom step at r → AnswersFrom step at w → r ≡ w
answers_once {F} {step} (more {i = i} {r = r} q rest) (more {i = j} {r = w} p rest') =
    let e : j ≡ i = cc in
    let b : AnswersFrom step i.end w = rw e at rest' in
    let d : r ≡ w = answers_once rest b in
    rw (e, d) refl
answers_once (more q rest) (over p) = let z : ◌≡◌ {A = ℕ} 0 1 = cc in absurd (omega arith)
answers_once (more q rest) (stops p) = let z : ◌≡◌ {A = ℕ} 0 1 = cc in absurd (omega arith)
answers_once (over q) (more p rest) = let z : ◌≡◌ {A = ℕ} 0 1 = cc in absurd (omega arith)
answers_once (over q) (over p) = refl
answers_once (over q) (stops p) = let z : ◌≡◌ {A = ℕ} 0 1 = cc in absurd (omega arith)
answers_once (stops q) (more p rest) = let z : ◌≡◌ {A = ℕ} 0 1 = cc in absurd (omega arith)
answers_once (stops q) (over p) = let z : ◌≡◌ {A = ℕ} 0 1 = cc in absurd (omega arith)
answers_once (stops {place = a} {n = m} {layer = l} q) (stops {place = a'} {n = m'} {layer = l'} p) =
    let e : a ≡ a' = cc in
    let f : m ≡ m' = cc in
    let g : l ≡ l' = cc in
    rw (e, f, g) refl

module _ (network : Network) (cap : ℕ) (s : List ℕ) where
  -- the walk from a place
  abbrev From : ℕ → Reading Content
  From at = walk Content (handshakeOpened network) (message_at network cap) s at

  steps-walk : {at : ℕ} {r : Reading Content} → at ≤ length s → StepsFrom network cap s at r → r ≡ From at
  unfolding session_step onward
  steps-walk {at} h (more {i = i} q rest) =
      let b = step-item (session_readers network cap) s at i h q in
      rw (walk_step (session_readers network cap) s at h, q, ← steps-walk b.2 rest)
  steps-walk {at} h (over q) = rw (walk_step (session_readers network cap) s at h, q)
  steps-walk {at} h (stops q) = rw (walk_step (session_readers network cap) s at h, q)

  walk_steps : {at : ℕ} → at ≤ length s → Walks (session_readers network cap) s at → StepsFrom network cap s at (From at)
  unfolding session_step step_to
  walk_steps {at} h (WalkLaws.over z e) =
      rw (walk-over (session_readers network cap) s at z e) (over (step_end Content (handshakeOpened network) (message_at network cap) s at z e))
  walk_steps {at} h (WalkLaws.stops layer n b q) =
      let e : session_step network cap s at ≡ stop layer n at =
      rw (step_open Content (handshakeOpened network) (message_at network cap) s at b, q) in
      rw (walk-stops (session_readers network cap) s at layer n b q) (stops e)
  walk_steps {at} h (WalkLaws.goes f end b q m l w) =
      let e : session_step network cap s at ≡ item (record { start = at; end = end; holds = f }) =
      rw (step_open Content (handshakeOpened network) (message_at network cap) s at b, q) in
      rw (walk-goes (session_readers network cap) s at f end h b q) (more e (walk_steps l w))

  -- the answers of the steps from a place on are the walk from there, and nothing else is
  pub steps-from : (at : ℕ) → at ≤ length s → (r : Reading Content) → StepsFrom network cap s at r ↔ (r ≡ From at)
  steps-from at h r = (steps-walk h, λ e. rw e (walk_steps h (walks (session_readers network cap) s at h)))
