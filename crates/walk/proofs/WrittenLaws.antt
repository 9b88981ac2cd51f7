-- Written sessions, for any writers that keep `WriterLaws`. The output up to the last accepted end is the accepted writes' bytes, one after the other
-- (`session-left`); read from place 0 on, each of them gives the item of its value, and the last ends where the bytes end.
use Prim.Native.Nat.{ℕ, ◌+◌, ◌≤◌, ◌<◌}
use Rattle.std.proofs.Common.{arith, ◌∙◌, take_at, length-take-le, ne_eqb}
use mathlib.Core.List.{List, [], ◌∷◌, ◌++◌, map, flat_map, append_assoc, append-nil}
use Rattle.std.specs.Prelude.{◌≡◌, eqb, drop}
use Rattle.std.proofs.Math.Path.{refl, sym, ap}
use Rattle.std.proofs.Math.ListN.{length, take, length-append}
use Rattle.wire.specs.Output.{put, output_after, Written, To, Refused}
use Rattle.wire.proofs.OutputLaws.{length-put, put-eq}
use Rattle.wire.specs.ReadsBack.{StandsAt}
use Rattle.wire.proofs.ReadsBackLaws.{stands-left, stands_right, stands-whole}
use Rattle.types.specs.declared.Network.{Network}
use Rattle.walk.specs.Walk.{opened, clean, Reading, walk, reading}
use Rattle.walk.proofs.WalkLaws.{open_at, ReaderLaws, item_then, walk-over, walk-goes}
use Rattle.walk.specs.Session.{Content, handshake_at, message_at, session_reading}
use Rattle.walk.specs.WrittenSession as Session
use Rattle.walk.specs.WrittenSession.{Write, Value, write_value, fields_value, Typed, AllTyped, said, write_bytes, Done, after, write_all, session_bytes, is_handshake, OnlyMessages, HandshakeFirst, first, item_values}

-- ---- what the writers must keep

module _ (network : Network) (cap : ℕ) where
  -- the bytes bs at a place are opened as an item of the value v that ends where they end
  abbrev pub Opens : List ℕ → Value → List ℕ → ℕ → Type 0
  Opens bs v s at =
      (c : Content) × (open_at Content (handshake_at network) (message_at network cap) s at ≡ opened c (at + length bs)) × (fields_value c.fields ≡ v)

pub record WriterLaws (network : Network) (cap : ℕ) : Type 0 where
  -- an accepted write ends where its bytes end, within the output
  pub ends : (w : Write) (out : List ℕ) (at end : ℕ) → said network cap w out at ≡ To end
      → (end ≡ at + length (write_bytes network cap w)) × (end ≤ length out)
  -- whatever stands around them, its bytes are read back: a handshake's at place 0, a message's at any other
  pub reads : (w : Write) (out : List ℕ) (at end : ℕ) → Typed w → said network cap w out at ≡ To end
      → (s : List ℕ) (p : ℕ) → is_handshake w ≡ eqb p 0 → StandsAt s p (write_bytes network cap w)
      → Opens network cap (write_bytes network cap w) (write_value w) s p

module _ (network : Network) (cap least : ℕ) (readers : ReaderLaws Content (handshake_at network) (message_at network cap) least)
    (writers : WriterLaws network cap) where
  -- ---- the bytes that a list of writes leaves

  -- some output accepted each of these writes
  data Accepted : List Write → Type 0 where
    none : Accepted []
    more : {w : Write} {ws : List Write} (out : List ℕ) (at end : ℕ) → Typed w → said network cap w out at ≡ To end → Accepted ws → Accepted (w ∷ ws)

  all_bytes : List Write → List ℕ
  all_bytes ws = flat_map (write_bytes network cap) ws

  -- what is left behind the bytes `before`
  record Left (before : List ℕ) (d : Done) : Type 0 where
    accepted : Accepted d.accepted
    bytes : take d.at d.out ≡ before ++ all_bytes d.accepted

  -- the output up to the end of a write with room
  take_put : (out : List ℕ) (at : ℕ) (bs : List ℕ) → at + length bs ≤ length out → take (at + length bs) (put out at bs) ≡ take at out ++ bs
  take_put out at bs h =
      ap (take (at + length bs)) (put-eq out at bs h)
      ∙ take_at (take at out ++ bs) (drop (at + length bs) out) (at + length bs)
      (length-append (take at out) bs ∙ ap (λ (n : ℕ). n + length bs) (length-take-le at out (omega arith)))

  left_after : (w : Write) (r : Written) (out : List ℕ) (at : ℕ) (next : List ℕ → ℕ → Done) → Typed w → said network cap w out at ≡ r
      → at ≤ length out → ((o : List ℕ) (p : ℕ) → p ≤ length o → Left (take p o) (next o p))
      → Left (take at out) (after w r (output_after r out at (write_bytes network cap w)) at next)
  unfolding after output_after all_bytes flat_map
  left_after w (Refused n) out at next t q h ih = ih out at h
  left_after w (To end) out at next t q h ih =
      let bs : List ℕ = write_bytes network cap w in
      let e = writers.ends w out at end q in
      let l = ih (put out at bs) end (omega (arith, length-put out at bs)) in
      let f : take end (put out at bs) ≡ take at out ++ bs = rw e.0 (take_put out at bs (omega arith)) in
      let rest : List ℕ = all_bytes (next (put out at bs) end).accepted in
      record {
        accepted = more out at end t q l.accepted;
        bytes = l.bytes ∙ ap (λ (b : List ℕ). b ++ rest) f ∙ append_assoc (take at out) bs rest;
      }

  left : {ws : List Write} → AllTyped ws → (out : List ℕ) (at : ℕ) → at ≤ length out → Left (take at out) (write_all network cap ws out at)
  unfolding write_all all_bytes flat_map
  left Session.none out at h = record { accepted = none; bytes = sym (append-nil (take at out)) }
  left (Session.more {w = w} {ws = ws} t ts) out at h =
      left_after w (said network cap w out at) out at (λ o p. write_all network cap ws o p) t refl h (λ o p g. left ts o p g)

  session-left : (ws : List Write) (out : List ℕ) → AllTyped ws → Left [] (write_all network cap ws out 0)
  session-left ws out t = left t out 0 (omega arith)

  -- ---- what they are read as

  abbrev Walk : List ℕ → ℕ → Reading Content
  Walk s at = walk Content (handshake_at network) (message_at network cap) s at

  -- a reading has these values, and ends cleanly
  record ReadsAs (vs : List Value) (r : Reading Content) : Type 0 where
    values : item_values r.items ≡ vs
    ending : r.ending ≡ clean

  reads_over : (s : List ℕ) (at : ℕ) → 0 < at → at ≡ length s → ReadsAs [] (Walk s at)
  unfolding item_values
  reads_over s at h e = rw (walk-over readers s at h e) (record { values = refl; ending = refl })

  reads-item : (v : Value) (vs : List Value) (at : ℕ) (c : Content) (end : ℕ) (r : Reading Content) → fields_value c.fields ≡ v → ReadsAs vs r
      → ReadsAs (v ∷ vs) (item_then at c end r)
  unfolding item_values
  reads-item v vs at c end r e h = record { values = rw e (ap (λ (l : List Value). v ∷ l) h.values); ending = h.ending }

  -- one write's bytes at a place, and then the others'
  reads-write : (w : Write) (ws : List Write) (s : List ℕ) (at : ℕ) → at ≤ length s
      → Opens network cap (write_bytes network cap w) (write_value w) s at → StandsAt s at (write_bytes network cap w)
      → (at < at + length (write_bytes network cap w) → ReadsAs (map write_value ws) (Walk s (at + length (write_bytes network cap w))))
      → ReadsAs (map write_value (w ∷ ws)) (Walk s at)
  reads-write w ws s at h (c, q, v) g rest =
      let end : ℕ = at + length (write_bytes network cap w) in
      let m : at + least ≤ end = readers.moves s at c end h q in
      let l : at < end = omega (arith, readers.some) in
      rw (walk-goes readers s at c end h (λ z. omega (arith, g.within)) q)
      (reads-item (write_value w) (map write_value ws) at c end (Walk s end) v (rest l))

  reads_messages : {ws : List Write} → Accepted ws → OnlyMessages ws → (s : List ℕ) (at : ℕ) → 0 < at → StandsAt s at (all_bytes ws)
      → at + length (all_bytes ws) ≡ length s → ReadsAs (map write_value ws) (Walk s at)
  unfolding all_bytes flat_map
  reads_messages none Session.none s at z h e = reads_over s at z (omega arith)
  reads_messages (more {w = w} {ws = ws} out p end t q a) (Session.more m ms) s at z h e =
      let bs : List ℕ = write_bytes network cap w in
      let g : StandsAt s at bs = stands-left bs (all_bytes ws) h in
      let n : length (bs ++ all_bytes ws) ≡ length bs + length (all_bytes ws) = length-append bs (all_bytes ws) in
      reads-write w ws s at (omega (arith, g.within))
      (writers.reads w out p end t q s at (m ∙ sym (ne_eqb at 0 (λ x. omega arith))) g) g
      (λ l. reads_messages a ms s (at + length bs) (omega arith) (stands_right bs (all_bytes ws) h) (omega arith))

  reads-session : {ws : List Write} → Accepted ws → HandshakeFirst ws → ReadsAs (map write_value ws) (session_reading network cap (all_bytes ws))
  unfolding session_reading reading all_bytes flat_map
  reads-session none x = elim x [ ]
  reads-session (more {w = w} {ws = ws} out p end t q a) (first m ms) =
      let bs : List ℕ = write_bytes network cap w in
      let s : List ℕ = bs ++ all_bytes ws in
      let h : StandsAt s 0 s = stands-whole s in
      let g : StandsAt s 0 bs = stands-left bs (all_bytes ws) h in
      let n : length s ≡ length bs + length (all_bytes ws) = length-append bs (all_bytes ws) in
      reads-write w ws s 0 (omega arith) (writers.reads w out p end t q s 0 m g) g
      (λ l. reads_messages a ms s (0 + length bs) (omega arith) (stands_right bs (all_bytes ws) h) (omega arith))

  -- ---- the two theorems

  pub written-reads : (ws : List Write) (out : List ℕ) → AllTyped ws → HandshakeFirst (write_all network cap ws out 0).accepted
      → (item_values (session_reading network cap (session_bytes (write_all network cap ws out 0))).items ≡ map write_value (write_all network cap ws out 0).accepted)
      × ((session_reading network cap (session_bytes (write_all network cap ws out 0))).ending ≡ clean)
  unfolding session_bytes
  written-reads ws out t f =
      let l = session-left ws out t in
      let r = reads-session l.accepted f in
      rw l.bytes (r.values, r.ending)

  pub written_once : (ws ws' : List Write) (out out' : List ℕ) → AllTyped ws → AllTyped ws'
      → HandshakeFirst (write_all network cap ws out 0).accepted → HandshakeFirst (write_all network cap ws' out' 0).accepted
      → session_bytes (write_all network cap ws out 0) ≡ session_bytes (write_all network cap ws' out' 0)
      → map write_value (write_all network cap ws out 0).accepted ≡ map write_value (write_all network cap ws' out' 0).accepted
  written_once ws ws' out out' t t' f f' e =
      sym (written-reads ws out t f).0
      ∙ ap (λ (s : List ℕ). item_values (session_reading network cap s).items) e
      ∙ (written-reads ws' out' t' f').0
