-- By which readers an item of a session was read, and that its bytes stand at its places.
use Prim.Native.Nat.{ℕ, zero, suc}
use Rattle.std.proofs.Common.{arith}
use Rattle.std.specs.Prelude.{List}
use Rattle.std.proofs.Math.Path.{◌≡◌, refl, sym}
use Rattle.wire.specs.Bytes.{Each, none, more}
use Rattle.wire.specs.Reader.{Answer, got, refused}
use Rattle.wire.specs.ReadsBack.{StandsAt}
use Rattle.types.specs.declared.Network.{Network}
use Rattle.handshake.specs.Entry.{EntryHandshake, handshake}
use Rattle.handshake.proofs.PlacesLaws.{gives-entry, handshake-entry}
use Rattle.frame.specs.Frame.{BodyFrame, frame}
use Rattle.frame.proofs.FrameLaws.{frame-places}
use Rattle.messages.specs.Message.{Message, message}
use Rattle.messages.proofs.PlacesLaws.{message-placed}
use Rattle.walk.specs.Walk.{Opened, opened, Item, walk, reading}
use Rattle.walk.proofs.WalkLaws.{open_at, ReaderLaws, Walks, over, stops, goes, walks, walk-over, walk-stops, walk-goes}
use Rattle.walk.specs.Session.{Fields, handshake_fields, message_fields, Content, handshake_item, message_item, frame_item, handshake_at, message_at}
use Rattle.walk.specs.Places.{FieldsPlaced}

-- ---- each item of a walk was opened at its place

module _ {F : Type 0} {handshake_at : List ℕ → Opened F} {message_at : List ℕ → ℕ → Opened F} {least : ℕ}
    (laws : ReaderLaws F handshake_at message_at least) (s : List ℕ) (P : Item F → Type 0)
    (one : (at end : ℕ) (f : F) → open_at F handshake_at message_at s at ≡ opened f end → P (record { start = at; end = end; holds = f })) where
  walk-each : {at : ℕ} → Walks laws s at → Each P (walk F handshake_at message_at s at).items
  walk-each {at} (over z e) = rw (walk-over laws s at z e) none
  walk-each {at} (stops layer n b q) = rw (walk-stops laws s at layer n b q) none
  walk-each {at} (goes f end b q m l w) = rw (walk-goes laws s at f end (omega arith) b q) (more (one at end f q) (walk-each w))

  pub reading-each : Each P (reading F handshake_at message_at s).items
  unfolding reading
  reading-each = walk-each (walks laws s 0 (omega arith))

-- ---- by which readers

module _ (network : Network) (cap : ℕ) (s : List ℕ) where
  -- the fields of the item at a place that ends at another
  pub data FieldsRead (at : ℕ) : Fields → ℕ → Type 0 where
    a_handshake : {h : EntryHandshake} {e : ℕ} → handshake s 0 ≡ got h e → FieldsRead at (handshake_fields h) e
    a_message : {f : BodyFrame} {m : Message} {e next : ℕ} → frame network s at ≡ got f e → message cap f.code f.body.bytes 0 ≡ got m next
        → FieldsRead at (message_fields f.code f.body.start m) e

  handshake_fields_lem : (r : Answer EntryHandshake) (at end : ℕ) (c : Content) → handshake s 0 ≡ r → handshake_item network r ≡ opened c end
      → FieldsRead at c.fields end
  unfolding handshake_item
  handshake_fields_lem (got h e) at end c q p =
      let f : handshake_fields h ≡ c.fields = cc in
      let n : e ≡ end = cc in
      rw (← f, ← n) (a_handshake q)
  handshake_fields_lem (refused n) at end c q p = let z : ◌≡◌ {A = ℕ} 0 1 = cc in absurd (omega arith)

  message_fields_lem : (f : BodyFrame) (e : ℕ) (r : Answer Message) (at end : ℕ) (c : Content) → frame network s at ≡ got f e
      → message cap f.code f.body.bytes 0 ≡ r → message_item network f e r ≡ opened c end → FieldsRead at c.fields end
  unfolding message_item
  message_fields_lem f e (got m next) at end c q b p =
      let g : message_fields f.code f.body.start m ≡ c.fields = cc in
      let n : e ≡ end = cc in
      rw (← g, ← n) (a_message q b)
  message_fields_lem f e (refused n) at end c q b p = let z : ◌≡◌ {A = ℕ} 0 1 = cc in absurd (omega arith)

  frame_fields : (r : Answer BodyFrame) (at end : ℕ) (c : Content) → frame network s at ≡ r → frame_item network cap r ≡ opened c end
      → FieldsRead at c.fields end
  unfolding frame_item
  frame_fields (got f e) at end c q p = message_fields_lem f e (message cap f.code f.body.bytes 0) at end c q refl p
  frame_fields (refused n) at end c q p = let z : ◌≡◌ {A = ℕ} 0 1 = cc in absurd (omega arith)

  pub fields_read : (at end : ℕ) (c : Content) → open_at Content (handshake_at network) (message_at network cap) s at ≡ opened c end
      → FieldsRead at c.fields end
  unfolding open_at handshake_at message_at
  fields_read zero end c p = handshake_fields_lem (handshake s 0) 0 end c refl p
  fields_read (suc at) end c p = frame_fields (frame network s (suc at)) (suc at) end c refl p

  -- ---- where the bytes stand

  -- the body of a frame
  pub body-stands : (at : ℕ) {f : BodyFrame} {e : ℕ} → frame network s at ≡ got f e → StandsAt s f.body.start f.body.bytes
  body-stands at q =
      let p = frame-places network s at q in
      record { within = omega (arith, p.ends, p.within); bytes = sym p.stands }

  pub fields_placed : {at : ℕ} {g : Fields} {end : ℕ} → FieldsRead at g end → FieldsPlaced s end g
  unfolding FieldsPlaced
  fields_placed (a_handshake {h = h} {e = e} q) = let r = handshake-entry s 0 q in (gives-entry.holds h.entry e r.1).1
  fields_placed {at} (a_message {f = f} q b) =
      record {
        body = f.body.bytes;
        stands = body-stands at q;
        ends = sym (frame-places network s at q).ends;
        placed = message-placed cap f.code f.body.bytes 0 b;
      }
