-- What the step gives, from what its readers answered. An item ends after its start, within the stream.
use Prim.Native.Nat.{ℕ, zero, suc, ◌+◌, ◌-◌, ◌≤◌, ◌<◌}
use Rattle.std.proofs.Common.{arith, ◌∙◌}
use mathlib.Core.List.{List}
use Rattle.std.specs.Prelude.{◌≡◌, drop}
use Rattle.std.proofs.Math.Path.{refl, ap, sym}
use Rattle.std.proofs.Math.ListN.{length, take}
use Rattle.wire.specs.Reader.{Answer, got, refused, map_answer}
use Rattle.wire.proofs.ReaderLaws.{map-got, map-refused}
use Rattle.types.specs.declared.Network.{Network}
use Rattle.types.specs.declared.StreamPlace.{StreamPlace}
use Rattle.frame.specs.Frame.{BodyFrame, frame}
use Rattle.frame.proofs.FrameLaws.{frame-places}
use Rattle.frame_read.specs.Answers.{frame_of}
use Rattle.frame_read.specs.declared.Frame.{Frame}
use Rattle.handshake.specs.Entry.{EntryHandshake, handshake}
use Rattle.handshake.specs.Verdict.{validate_peer}
use Rattle.handshake_read.specs.Answers.{handshake_of}
use Rattle.handshake_read.specs.declared.Handshake.{Handshake}
use Rattle.handshake_verdict.specs.Peer.{entry_in}
use Rattle.handshake_verdict.proofs.PeerLaws.{handshake_again}
use Rattle.messages.specs.Message.{Message, message}
use Rattle.messages_read.specs.Answers.{message_of}
use Rattle.messages_read.specs.declared.Message as Given
use Rattle.walk.specs.Walk.{step_to, step}
use Rattle.walk.proofs.WalkLaws.{open_at, step_end, step_open, step-outside}
use Rattle.walk.specs.Session.{Content, handshake_item, message_item, frame_item, handshake_at, message_at, session_step}
use Rattle.walk_read.specs.declared.StepRead.TheVariants as StepReads
use Rattle.walk_read.specs.declared.Layer.TheVariants as Layers
use Rattle.walk_read.specs.Steps.{stream_place, item_of, step_of, opened_step}

-- ---- the handshake

module _ (network : Network) (s : List ℕ) where
  pub handshake-read : {h : EntryHandshake} {e v : ℕ} {given : Handshake}
      → handshake s 0 ≡ got h e → handshake_of h ≡ given → v ≡ validate_peer network (entry_in s given.peer)
      → StepReads.Handshake (record { start = stream_place 0; end = stream_place e; handshake = given; verdict = v }) ≡ step_of network s (step_to 0 (handshake_at network s))
  unfolding step_of item_of step_to handshake_at handshake_item
  handshake-read p q v = rw (p, v, handshake_again s p q, q)

  pub handshake-refused : {m : ℕ} → handshake s 0 ≡ refused m
      → StepReads.Stop (record { layer = Layers.Handshake; number = m; start = stream_place 0 }) ≡ step_of network s (step_to 0 (handshake_at network s))
  unfolding step_of step_to handshake_at handshake_item
  handshake-refused p = rw p

-- ---- a frame, opened as a message

-- the body of a frame, by its places
abbrev pub body_of : List ℕ → Frame → List ℕ
body_of s f = take f.body.len (drop f.body.start.0 s)

module _ (network : Network) (cap : ℕ) (s : List ℕ) (at : ℕ) where
  pub frame-inside : {f : BodyFrame} {e : ℕ} → frame network s at ≡ got f e → f.body.start + length f.body.bytes ≤ length s
  frame-inside {f} {e} p = let q = frame-places network s at p in omega (arith, q.ends, q.within)

  pub frame_opened : {f : BodyFrame} {e : ℕ} {given : Frame} → frame network s at ≡ got f e → frame_of f ≡ given
      → opened_step network (stream_place at) (stream_place e) given (body_of s given) (message cap given.code (body_of s given) 0)
      ≡ step_of network s (step_to at (message_at network cap s at))
  unfolding step_of item_of step_to message_item opened_step message_at frame_item
  frame_opened {f} {e} p q =
      let places = frame-places network s at p in
      rw (p, ← q, ← places.stands) (go f.body.bytes places.stands (omega (arith, places.ends)) (message cap f.code f.body.bytes 0))
    where
      go : (body : List ℕ) → body ≡ take (length f.body.bytes) (drop f.body.start s) → e - f.body.start ≡ length f.body.bytes → (r : Answer Message)
          → opened_step network (stream_place at) (stream_place e) (frame_of f) body r ≡ step_of network s (step_to at (message_item network f e r))
      go body b n (got m next) = rw (b, n)
      go body b n (refused k) = refl

  pub frame_refused : {m : ℕ} → frame network s at ≡ refused m
      → StepReads.Stop (record { layer = Layers.Frame; number = m; start = stream_place at }) ≡ step_of network s (step_to at (message_at network cap s at))
  unfolding step_of step_to message_at frame_item
  frame_refused p = rw p

module _ (network : Network) (start end : StreamPlace) (f : Frame) (body : List ℕ) (r : Answer Message) where
  pub body-got : {given : Given.Message} {next : ℕ} → map_answer (message_of network body) r ≡ got given next
      → StepReads.Message (record { start = start; end = end; code = f.code; body = f.body; message = given }) ≡ opened_step network start end f body r
  unfolding opened_step
  body-got q =
      let a = map-got (message_of network body) q in
      ap (λ (g : Given.Message). StepReads.Message (record { start = start; end = end; code = f.code; body = f.body; message = g })) (sym a.2)
      ∙ ap (opened_step network start end f body) (sym a.1)

  pub body_refused : {m : ℕ} → map_answer (message_of network body) r ≡ refused m
      → StepReads.Stop (record { layer = Layers.Body; number = m; start = start }) ≡ opened_step network start end f body r
  unfolding opened_step
  body_refused q = rw (map-refused (message_of network body) q)

-- ---- the step at a place

module _ (network : Network) (cap : ℕ) (s : List ℕ) (at : ℕ) where
  pub at-start : at ≡ 0 → step_to 0 (handshake_at network s) ≡ session_step network cap s at
  unfolding session_step step
  at-start z = rw z

  pub at-end : 0 < at → at ≡ length s → StepReads.End ≡ step_of network s (session_step network cap s at)
  unfolding session_step step_of
  at-end h e = rw (step_end Content (handshake_at network) (message_at network cap) s at h e)

  pub past_end : length s < at → StepReads.Outside ≡ step_of network s (session_step network cap s at)
  unfolding session_step step_of
  past_end h = rw (step-outside Content (handshake_at network) (message_at network cap) s at h)

  pub at-frame : 0 < at → at < length s → step_to at (message_at network cap s at) ≡ session_step network cap s at
  unfolding session_step open_at
  at-frame h g = sym (step_open Content (handshake_at network) (message_at network cap) s at (λ z. g) ∙ ap (step_to at) (opens at h))
    where
      opens : (at : ℕ) → 0 < at → open_at Content (handshake_at network) (message_at network cap) s at ≡ message_at network cap s at
      opens zero h = absurd (omega arith)
      opens (suc at) h = refl

pub ruleset step_laws = (at-start, at-end, past_end, at-frame)
