-- The laws of `WalkLaws` and `WrittenLaws`, supplied by the formats. An item's bytes are a handshake's or a whole frame's, so that what a cut does to it is
-- what it does to the handshake or the frame: a body is read from the frame's own bytes.
use Prim.Native.Nat.{ℕ, zero, suc, ◌+◌, ◌≤◌, ◌<◌}
use Rattle.std.proofs.Common.{arith, sym, ◌∙◌}
use Rattle.std.specs.Prelude.{true, false, List, T, eqb, take}
use Rattle.std.proofs.Math.Path.{◌≡◌, ap}
use Rattle.std.proofs.Math.ListN.{length}
use borrow.Author.Tests.{eqb-true}
use Rattle.wire.proofs.OutputLaws.{written-accepted}
use Rattle.wire.specs.Reader.{Answer, got, refused}
use Rattle.wire.specs.ReadsBack.{StandsAt, ReadsBack}
use Rattle.wire.specs.Output.{To}
use Rattle.wire.specs.Stable.{Beyond, CutTo, kept, own, short}
use Rattle.vlq.specs.Vlq.{limit}
use Rattle.types.specs.declared.Network.{Network}
use Rattle.handshake.specs.Entry.{EntryHandshake, handshake}
use Rattle.handshake.proofs.EntryLaws.{stable_handshake, least-handshake}
use Rattle.handshake.specs.Value.{HandshakeValue, handshake_value, handshake_bytes}
use Rattle.handshake.specs.Writes.{handshake_written, built, built_written}
use Rattle.handshake.proofs.WritesLaws.{handshake-reads-back, built-reads-back}
use Rattle.frame.specs.Frame.{BodyFrame, frame}
use Rattle.frame.proofs.FrameLaws.{stable_frame, least-frame, FrameValue, reads-frame}
use Rattle.messages.specs.Message.{Message, message}
use Rattle.messages.proofs.MessageLaws.{ReadAs}
use Rattle.messages.specs.Value.{MessageValue, code_of, body_bytes}
use Rattle.messages.specs.Writes.{MessageWrite, value_of, message_bytes, message_written}
use Rattle.messages.proofs.WritesLaws.{PeersTyped, message-reads-back}
use Rattle.walk.specs.Walk as Walk
use Rattle.walk.specs.Walk.{Opened, opened, is_cut}
use Rattle.walk.proofs.WalkLaws as Laws
use Rattle.walk.proofs.WalkLaws.{Past, OpenedCut, open_at, ReaderLaws}
use Rattle.walk.specs.Session.{Content, handshake_item, message_item, frame_item, handshake_at, message_at}
use Rattle.walk.specs.WrittenSession.{Write, write_handshake, write_built, write_message, session_handshake, session_message, write_value, fields_value, bytes_typed, MessageTyped, Typed, said, write_bytes, is_handshake}
use Rattle.walk.proofs.WrittenLaws.{Opens, WriterLaws}

-- ---- the readers

module _ (network : Network) where
  -- a handshake
  past_handshake : (k : ℕ) (r : Answer EntryHandshake) → Beyond k r → Past k (handshake_item network r)
  unfolding handshake_item
  past_handshake k (got h e) b = b
  past_handshake k (refused n) b = tt

  handshake-cut : {k : ℕ} {r w : Answer EntryHandshake} → CutTo (is_cut Walk.handshake) k r w
      → OpenedCut k (handshake_item network r) (handshake_item network w)
  unfolding handshake_item
  handshake-cut (kept h) = Laws.kept h
  handshake-cut own = Laws.own
  handshake-cut {k} (short {r = r} b t) = Laws.short (past_handshake k r b) t

  handshake-end : (r : Answer EntryHandshake) (c : Content) (e : ℕ) → handshake_item network r ≡ opened c e → (h : EntryHandshake) × (r ≡ got h e)
  unfolding handshake_item
  handshake-end (got h d) c e q = (h, ap (got h) (cc))
  handshake-end (refused n) c e q = let z : ◌≡◌ {A = ℕ} 0 1 = cc in absurd (omega arith)

  -- a frame opened as a message
  past_message : (k : ℕ) (f : BodyFrame) (e : ℕ) (m : Answer Message) → k < e → Past k (message_item network f e m)
  unfolding message_item
  past_message k f e (got m next) h = h
  past_message k f e (refused n) h = tt

  kept-message : {k : ℕ} (f : BodyFrame) (e : ℕ) (m : Answer Message) → e ≤ k → OpenedCut k (message_item network f e m) (message_item network f e m)
  unfolding message_item
  kept-message f e (got m next) h = Laws.kept h
  kept-message f e (refused n) h = Laws.own

  message-end : (f : BodyFrame) (d : ℕ) (m : Answer Message) (c : Content) (e : ℕ) → message_item network f d m ≡ opened c e → d ≡ e
  unfolding message_item
  message-end f d (got m next) c e q = cc
  message-end f d (refused n) c e q = let z : ◌≡◌ {A = ℕ} 0 1 = cc in absurd (omega arith)

  module _ (cap : ℕ) where
    past_frame : (k : ℕ) (r : Answer BodyFrame) → Beyond k r → Past k (frame_item network cap r)
    unfolding frame_item
    past_frame k (got f e) b = past_message k f e (message cap f.code f.body.bytes 0) b
    past_frame k (refused n) b = tt

    frame-cut : {k : ℕ} {r w : Answer BodyFrame} → CutTo (is_cut Walk.frame) k r w → OpenedCut k (frame_item network cap r) (frame_item network cap w)
    unfolding frame_item
    frame-cut (kept {a = f} {e = e} h) = kept-message f e (message cap f.code f.body.bytes 0) h
    frame-cut own = Laws.own
    frame-cut {k} (short {r = r} b t) = Laws.short (past_frame k r b) t

    frame-end : (r : Answer BodyFrame) (c : Content) (e : ℕ) → frame_item network cap r ≡ opened c e → (f : BodyFrame) × (r ≡ got f e)
    unfolding frame_item
    frame-end (got f d) c e q = (f, ap (got f) (message-end f d (message cap f.code f.body.bytes 0) c e q))
    frame-end (refused n) c e q = let z : ◌≡◌ {A = ℕ} 0 1 = cc in absurd (omega arith)

-- 1 is a cut in the handshake, 5 and 8 in the frame
one : T (is_cut Walk.handshake 1)
unfolding is_cut
one = tt

five : T (is_cut Walk.frame 5)
unfolding is_cut
five = tt

eight : T (is_cut Walk.frame 8)
unfolding is_cut
eight = tt

module _ (network : Network) (cap : ℕ) where
  abbrev Open : List ℕ → ℕ → Opened Content
  Open s at = open_at Content (handshake_at network) (message_at network cap) s at

  open_moves : (s : List ℕ) (at : ℕ) (c : Content) (e : ℕ) → at ≤ length s → Open s at ≡ opened c e → at + 8 ≤ e
  unfolding open_at handshake_at message_at
  open_moves s zero c e h q =
      let g = handshake-end network (handshake s 0) c e q in
      least-handshake.moves s 0 g.0 e h g.1
  open_moves s (suc at) c e h q =
      let g = frame-end network cap (frame network s (suc at)) c e q in
      omega (arith, (least-frame network).moves s (suc at) g.0 e h g.1)

  open_cut : (s : List ℕ) (at k : ℕ) → at ≤ k → k ≤ length s → OpenedCut k (Open s at) (Open (take k s) at)
  unfolding open_at handshake_at message_at
  open_cut s zero k h g = handshake-cut network ((stable_handshake one).cut s 0 k h g)
  open_cut s (suc at) k h g = frame-cut network cap ((stable_frame network five eight).cut s (suc at) k h g)

  pub session_readers : ReaderLaws Content (handshake_at network) (message_at network cap) 8
  session_readers = record { some = omega arith; moves = open_moves; cut = open_cut }

-- ---- the writers

peers-typed : (w : MessageWrite) → MessageTyped w → PeersTyped w
unfolding MessageTyped bytes_typed
peers-typed w h l e = rw e at h

module _ (network : Network) (cap : ℕ) where
  -- a handshake's bytes at place 0
  handshake-opens : (v : HandshakeValue) → ReadsBack handshake handshake_value (handshake_bytes v) v → (s : List ℕ) (p : ℕ) → true ≡ eqb p 0
      → StandsAt s p (handshake_bytes v) → Opens network cap (handshake_bytes v) (session_handshake v) s p
  unfolding open_at handshake_at handshake_item fields_value
  handshake-opens v h s zero e g =
      let r = h.reads s 0 g in
      (_, ap (handshake_item network) r.1, ap session_handshake r.2)
  handshake-opens v h s (suc p) e g = absurd (omega (arith, eqb-true (suc p) 0 (sym e)))

  -- the body of a frame
  body_reads : (v : MessageValue) (code : ℕ) (body : List ℕ) → code ≡ code_of v → body ≡ body_bytes v → (r : ReadAs cap v)
      → message cap code body 0 ≡ got r.reading (length (body_bytes v))
  body_reads v code body e f r = rw (e, f) r.reads

  -- a message's frame at any other place
  message-opens : (v : MessageValue) → length (body_bytes v) ≤ limit → ReadAs cap v → (s : List ℕ) (p : ℕ) → false ≡ eqb p 0
      → StandsAt s p (message_bytes network v) → Opens network cap (message_bytes network v) (session_message v) s p
  unfolding open_at message_at frame_item message_item fields_value
  message-opens v small r s zero e g = let z : ◌≡◌ {A = ℕ} 0 1 = cc in absurd (omega arith)
  message-opens v small r s (suc p) e g =
      let f = (reads-frame network (code_of v) (body_bytes v) small).reads s (suc p) g in
      let code : f.0.code ≡ code_of v = ap (λ (x : FrameValue). x.code) f.2 in
      let body : f.0.body.bytes ≡ body_bytes v = ap (λ (x : FrameValue). x.body) f.2 in (
        _,
        ap (frame_item network cap) f.1
            ∙ ap (message_item network f.0 (suc p + length (message_bytes network v))) (body_reads v f.0.code f.0.body.bytes code body r),
        rw code (ap session_message r.value),
      )

  write-ends : (w : Write) (out : List ℕ) (at end : ℕ) → said network cap w out at ≡ To end
      → (end ≡ at + length (write_bytes network cap w)) × (end ≤ length out)
  unfolding said write_bytes handshake_written built_written message_written
  write-ends (write_handshake timestamp l k) out at end q = let a = written-accepted _ _ out at _ end q in (a.end, omega (arith, a.end, a.room))
  write-ends (write_built c) out at end q = let a = written-accepted _ _ out at _ end q in (a.end, omega (arith, a.end, a.room))
  write-ends (write_message w) out at end q = let a = written-accepted _ _ out at _ end q in (a.end, omega (arith, a.end, a.room))

  write-reads : (w : Write) (out : List ℕ) (at end : ℕ) → Typed w → said network cap w out at ≡ To end
      → (s : List ℕ) (p : ℕ) → is_handshake w ≡ eqb p 0 → StandsAt s p (write_bytes network cap w)
      → Opens network cap (write_bytes network cap w) (write_value w) s p
  unfolding said Typed bytes_typed write_bytes write_value is_handshake
  write-reads (write_handshake timestamp l k) out at end typed q =
      handshake-opens _ (handshake-reads-back timestamp l k out at end typed.0 typed.1 q)
  write-reads (write_built c) out at end typed q =
      handshake-opens (built c) (built-reads-back c out at end typed.0 typed.1 q)
  write-reads (write_message w) out at end typed q =
      let r = message-reads-back network cap w out at end (peers-typed w typed) q in
      message-opens (value_of w) r.0 r.1

  pub session_writers : WriterLaws network cap
  session_writers = record { ends = write-ends; reads = write-reads }
