-- What is reached from an item that ends by a cut: a message's body stands before its end, and a handshake's entry and
-- features are read before it, so that their readers' cut laws keep them.
use Prim.Native.Nat.{ℕ, zero, suc, ◌+◌, ◌-◌, ◌≤◌, ◌<◌}
use Rattle.std.proofs.Common.{arith, ⊎_elim, sym, ◌∙◌, length-take-le}
use Rattle.std.specs.Prelude.{Bool, true, List, get_or, take}
use Rattle.std.proofs.Math.Path.{◌≡◌, refl, ap}
use Rattle.std.proofs.Math.ListN.{length}
use Rattle.wire.specs.Numbers.{lt-or_ge}
use Rattle.wire.specs.Reader.{Answer, got, refused, Reader, bind, map_answer, byte, part, fold, list_of}
use Rattle.wire.proofs.AnswerLaws.{no_answer, value_of, end_of_lem, bind-got}
use Rattle.wire.proofs.ReaderLaws.{Taken, field-taken}
use Rattle.wire.proofs.ListOfLaws.{turn, Listed, end, next}
use Rattle.wire.specs.Stable.{CutTo, kept, own, short, Stable}
use Rattle.wire.proofs.StableLaws.{stable_ends, take-drop-take}
use Rattle.vlq.specs.Vlq.{vlq, vlq_length}
use Rattle.vlq.proofs.VlqLaws.{stable_vlq}
use Rattle.types.specs.declared.Network.{Network}
use Rattle.frame.specs.Frame.{BodyFrame, frame}
use Rattle.frame.proofs.FrameLaws.{frame-places}
use Rattle.frame_read.specs.Answers.{part_in}
use Rattle.frame_read.specs.declared.StreamPart.{StreamPart}
use Rattle.handshake.specs.Entry.{EntryFeature, feature, Entry, entry, EntryHandshake, handshake}
use Rattle.handshake.specs.Verdict.{validate_peer}
use Rattle.handshake.proofs.EntryLaws.{stable_feature, stable_entry}
use Rattle.handshake_read.specs.declared.Handshake.{Handshake}
use Rattle.handshake_read.specs.Answers.{peer_spec_of, handshake_of}
use Rattle.handshake_read.specs.Parts.{feature_at, nth}
use Rattle.handshake_read.proofs.PartsLaws.{entry-agent, entry_listed}
use Rattle.messages.specs.Message.{Message, message, payload_after}
use Rattle.messages_inventory_read.specs.Parts.{id_at}
use Rattle.messages_response_read.specs.Parts.{payload_at}
use Rattle.messages_peers_read.specs.Parts.{entry_at}
use Rattle.messages_read.specs.Answers.{message_of}
use Rattle.messages_read.specs.Values.{ListGiven}
use Rattle.messages_read.specs.ValuesLaws.{list-given}
use Rattle.walk.specs.Walk as Walk
use Rattle.walk.specs.Walk.{Opened, opened, item, clean_end, stop, outside}
use Rattle.walk.proofs.WalkLaws.{open_at, step-opened}
use Rattle.walk.specs.Session.{handshake_fields, message_fields, peer_verdict, Content, message_verdict, handshake_item, message_item, frame_item, handshake_at, message_at, session_step}
use Rattle.walk.proofs.SessionLaws.{session_readers}
use Rattle.walk_read.specs.Steps.{stream_place, peer_number, body_in, item_of, step_of}
use Rattle.walk_read.proofs.StepsLaws.{past_end}
use Rattle.walk_read.specs.declared.HandshakeItem.{HandshakeItem}
use Rattle.walk_read.specs.declared.MessageItem.{MessageItem}
use Rattle.walk_read.specs.declared.StepRead.{StepRead}
use Rattle.walk_read.specs.declared.StepRead.TheVariants as StepReads
use Rattle.walk_read.specs.Given.{given}
use Rattle.walk_read.specs.GivenTheorems.{SameBody, SameEntry}

-- ---- a body

same_body : (cap : ℕ) (part whole : List ℕ) (body : StreamPart) → body.start.0 + body.len ≤ length part → part_in part body ≡ part_in whole body
    → SameBody cap part whole body
same_body cap part whole body h e =
    record {
      inside = h;
      bytes = e;
      id_by_index = λ index. ap (id_at index) e;
      payload_by_index = λ index. ap (payload_at index) e;
      entry_by_index = λ index. ap (entry_at cap index) e;
      feature_by_index = λ index at. ap (λ (b : List ℕ). feature_at index b at) e;
      read_payload = λ total at. ap (λ (b : List ℕ). payload_after (length b) total b at) e;
      read_entry = λ at. ap (λ (b : List ℕ). entry b at) e;
      read_feature = λ at. ap (λ (b : List ℕ). feature b at) e;
    }

-- ---- what an item was opened from

module _ (network : Network) where
  handshake_fields_lem : (r : Answer EntryHandshake) (c : Content) (e : ℕ) → handshake_item network r ≡ opened c e
      → (h : EntryHandshake) × (r ≡ got h e) × (c.fields ≡ handshake_fields h)
  unfolding handshake_item
  handshake_fields_lem (got h d) c e q =
      let y : d ≡ e = cc in
      let z : c ≡ record { fields = handshake_fields h; verdict = peer_verdict (validate_peer network h.entry) } = cc in
      (h, ap (got h) y, ap (λ (c : Content). c.fields) z)
  handshake_fields_lem (refused n) c e q = let z : ◌≡◌ {A = ℕ} 0 1 = cc in absurd (omega arith)

  message_fields_lem : (f : BodyFrame) (d : ℕ) (m : Answer Message) (c : Content) (e : ℕ) → message_item network f d m ≡ opened c e
      → (d ≡ e) × ((b : Message) × (c.fields ≡ message_fields f.code f.body.start b) × ((n : ℕ) × (m ≡ got b n)))
  unfolding message_item
  message_fields_lem f d (got m n) c e q =
      let y : d ≡ e = cc in
      let z : c ≡ record { fields = message_fields f.code f.body.start m; verdict = message_verdict network m } = cc in
      (y, (m, ap (λ (c : Content). c.fields) z, (n, refl)))
  message_fields_lem f d (refused n) c e q = let z : ◌≡◌ {A = ℕ} 0 1 = cc in absurd (omega arith)

  frame_fields : (cap : ℕ) (r : Answer BodyFrame) (c : Content) (e : ℕ) → frame_item network cap r ≡ opened c e
      → (f : BodyFrame) × (r ≡ got f e)
      × ((m : Message) × (c.fields ≡ message_fields f.code f.body.start m) × ((n : ℕ) × (message cap f.code f.body.bytes 0 ≡ got m n)))
  unfolding frame_item
  frame_fields cap (got f d) c e q =
      let r = message_fields_lem f d (message cap f.code f.body.bytes 0) c e q in
      (f, ap (got f) r.0, r.1)
  frame_fields cap (refused n) c e q = let z : ◌≡◌ {A = ℕ} 0 1 = cc in absurd (omega arith)

-- an answer that is an item
abbrev IsItem : StepRead → Type 0
IsItem (StepReads.Handshake i) = Unit {0}
IsItem (StepReads.Message i) = Unit {0}
IsItem StepReads.End = ⊥
IsItem (StepReads.Stop t) = ⊥
IsItem StepReads.Outside = ⊥

module _ (network : Network) (cap : ℕ) (s : List ℕ) (at : ℕ) where
  abbrev Open : Opened Content
  Open = open_at Content (handshake_at network) (message_at network cap) s at

  -- it is given of what was opened
  record ItemGiven (a : StepRead) : Type 0 where
    content : Content
    start : ℕ
    end : ℕ
    within : at ≤ length s
    opens : Open ≡ opened content end
    gives : item_of network s start end content.fields content.verdict ≡ a

  item_given_lem : (a : StepRead) → given network cap s at ≡ a → IsItem a → ItemGiven a
  unfolding given step_of session_step
  item_given_lem a q y = go (session_step network cap s at) refl q (⊎_elim (λ l. absurd (rw (sym (past_end network cap s at l ∙ q)) at y)) (λ l. l) (lt-or_ge (length s) at))
    where
      go : (x : Walk.Step Content) → session_step network cap s at ≡ x → step_of network s x ≡ a → at ≤ length s → ItemGiven a
      go (item i) q p h =
          record {
            content = i.holds;
            start = i.start;
            end = i.end;
            within = h;
            opens = (step-opened (session_readers network cap) s at i h q).1;
            gives = p;
          }
      go clean_end q p h = absurd (rw (sym p) at y)
      go (stop layer n place) q p h = absurd (rw (sym p) at y)
      go outside q p h = absurd (rw (sym p) at y)

  -- of a message, from its frame
  record FrameGiven (i : MessageItem) : Type 0 where
    of : BodyFrame
    read : frame network s at ≡ got of i.end.0
    start : i.body.start.0 ≡ of.body.start
    len : i.body.len ≡ i.end.0 - of.body.start
    code : i.code ≡ of.code
    holds : Message
    next : ℕ
    opens : message cap of.code of.body.bytes 0 ≡ got holds next
    same : i.message ≡ message_of network (body_in s of.body.start i.end.0) holds

  -- of a handshake, from what was read at place 0
  record HandshakeGiven (i : HandshakeItem) : Type 0 where
    of : EntryHandshake
    read : handshake s 0 ≡ got of i.end.0
    same : i.handshake ≡ handshake_of of

-- at place 0 a handshake was opened, at any other a frame
module _ (network : Network) (cap : ℕ) (s : List ℕ) where
  message-opened : (at : ℕ) (i : MessageItem) → ItemGiven network cap s at (StepReads.Message i) → FrameGiven network cap s at i
  unfolding open_at handshake_at message_at item_of
  message-opened zero i g =
      let h = handshake_fields_lem network (handshake s 0) g.content g.end g.opens in
      let q = rw h.2 at g.gives in
      let z : ◌≡◌ {A = ℕ} 0 1 = cc in absurd (omega arith)
  message-opened (suc at) i g =
      let h = frame_fields network cap (frame network s (suc at)) g.content g.end g.opens in
      let q = rw h.2.1 at g.gives in
      go h.0 h.1 h.2.0 q h.2.2.0 h.2.2.1
    where
      go : (f : BodyFrame) → frame network s (suc at) ≡ got f g.end → (m : Message)
          → item_of network s g.start g.end (message_fields f.code f.body.start m) g.content.verdict ≡ StepReads.Message i
          → (n : ℕ) → message cap f.code f.body.bytes 0 ≡ got m n
          → FrameGiven network cap s (suc at) i
      go f r m q n b =
          let e : i ≡ record {
            start = stream_place g.start;
            end = stream_place g.end;
            code = f.code;
            body = record { start = stream_place f.body.start; len = g.end - f.body.start };
            message = message_of network (body_in s f.body.start g.end) m;
          } = cc in
          record {
            of = f;
            read = rw e r;
            start = ap (λ (i : MessageItem). i.body.start.0) e;
            len = rw e refl;
            code = ap (λ (i : MessageItem). i.code) e;
            holds = m;
            next = n;
            opens = b;
            same = rw e refl;
          }

  handshake-opened : (at : ℕ) (i : HandshakeItem) → ItemGiven network cap s at (StepReads.Handshake i) → HandshakeGiven network cap s at i
  unfolding open_at handshake_at message_at item_of
  handshake-opened zero i g =
      let h = handshake_fields_lem network (handshake s 0) g.content g.end g.opens in
      let q = rw h.2 at g.gives in
      go h.0 h.1 q
    where
      go : (h : EntryHandshake) → handshake s 0 ≡ got h g.end
          → item_of network s g.start g.end (handshake_fields h) g.content.verdict ≡ StepReads.Handshake i
          → HandshakeGiven network cap s zero i
      go h r q =
          let e : i ≡ record {
            start = stream_place g.start;
            end = stream_place g.end;
            handshake = handshake_of h;
            verdict = peer_number g.content.verdict;
          } = cc in
          record { of = h; read = rw e r; same = ap (λ (i : HandshakeItem). i.handshake) e }
  handshake-opened (suc at) i g =
      let h = frame_fields network cap (frame network s (suc at)) g.content g.end g.opens in
      let q = rw h.2.1 at g.gives in
      let z : ◌≡◌ {A = ℕ} 0 1 = cc in absurd (omega arith)

  -- ---- a message

  pub reached_body : (k at : ℕ) → k ≤ length s → (i : MessageItem) → given network cap s at ≡ StepReads.Message i → i.end.0 ≤ k
      → SameBody cap (take k s) s i.body
  reached_body k at h i q l =
      let f = message-opened at i (item_given_lem network cap s at (StepReads.Message i) q tt) in
      let p = frame-places network s at f.read in
      let n : length (take k s) ≡ k = length-take-le k s h in
      let e : i.body.start.0 + i.body.len ≤ k = omega (arith, f.start, f.len, p.ends) in
      same_body cap (take k s) s i.body (omega arith) (take-drop-take i.body.len i.body.start.0 k s e)

  -- the list of a message
  abbrev ListReached : MessageItem → Type 0
  ListReached i =
      (m : Message) × (end : ℕ) × (message cap i.code (part_in s i.body) 0 ≡ got m end) × ListGiven (part_in s i.body) end m i.message

  frame-list : (at : ℕ) (i : MessageItem) → FrameGiven network cap s at i → ListReached i
  frame-list at i f =
      let p = frame-places network s at f.read in
      let n : i.end.0 - f.of.body.start ≡ length f.of.body.bytes = omega (arith, p.ends) in
      let b : body_in s f.of.body.start i.end.0 ≡ f.of.body.bytes = rw (n, ← p.stands) refl in
      let w : part_in s i.body ≡ f.of.body.bytes = rw (f.start, f.len) b in
      (f.holds, f.next, rw (f.code, w) f.opens, rw (w, f.same, b) (list-given network cap f.of.code f.of.body.bytes f.opens))

  pub reached_list : (at : ℕ) (i : MessageItem) → given network cap s at ≡ StepReads.Message i → ListReached i
  reached_list at i q = frame-list at i (message-opened at i (item_given_lem network cap s at (StepReads.Message i) q tt))

-- ---- an entry and its features

-- how readers are kept is the same whichever refusals count as cuts
abbrev any_cut : ℕ → Bool
any_cut m = true

cut-kept : {A : Type 0} {k : ℕ} {r w : Answer A} → CutTo any_cut k r w → (a : A) (e : ℕ) → r ≡ got a e → e ≤ k → w ≡ got a e
cut-kept (kept h) a e q l = q
cut-kept own a e q l = no_answer q
cut-kept {k = k} (short {r = r} b t) a e q l = let y : k < e = rw q at b in absurd (omega arith)

-- what is read up to k at most is read of the first k bytes
kept_by : {A : Type 0} {p : Reader A} → Stable any_cut p → (s : List ℕ) (k at : ℕ) (a : A) (e : ℕ) → k ≤ length s → at ≤ length s → p s at ≡ got a e → e ≤ k
    → p (take k s) at ≡ got a e
kept_by h s k at a e g l q b = cut-kept (h.cut s at k (omega (arith, h.moves s at a e l q)) g) a e q b

module _ {A : Type 0} {p : List A → Reader A} (h : (before : List A) → Stable any_cut (p before)) (s : List ℕ)
    (within : (before : List A) (at : ℕ) (a : A) (e : ℕ) → p before s at ≡ got a e → at ≤ length s) where
  listed-moves : {before : List A} {at : ℕ} {l : List A} {e : ℕ} → Listed p s before at l e → at ≤ e
  listed-moves end = omega arith
  listed-moves (next {before = before} {at = at} {n = n} {a = a} q more) =
      omega (arith, (h before).moves s at a n (within before at a n q) q, listed-moves more)

  -- so are the first n of a list of items that ends by k
  listed_kept : (k n : ℕ) → k ≤ length s → {before : List A} {at : ℕ} {l : List A} {e : ℕ} → Listed p s before at l e → e ≤ k → n ≤ length l
      → fold n (turn p) before (take k s) at ≡ fold n (turn p) before s at
  unfolding fold
  listed_kept k zero u w b c = refl
  listed_kept k (suc n) u end b c = absurd (omega arith)
  listed_kept k (suc n) u (next {before = before} {at = at} {n = m} {a = a} q more) b c =
      let f : p before (take k s) at ≡ got a m = kept_by (h before) s k at a m u (within before at a m q) q (omega (arith, listed-moves more)) in
      rw (f, q) (listed_kept k n u more b (omega arith))

feature-within : (s : List ℕ) (at : ℕ) (f : EntryFeature) (e : ℕ) → feature s at ≡ got f e → at ≤ length s
unfolding feature
feature-within s at f e q =
    let a = bind-got (byte s at) (λ id n. bind (vlq_length s n) (λ m n. bind (part m s n) (λ b n. got (record { id = id; body = b }) n))) q in
    let t : Taken 1 _ byte = field-taken 1 1 (λ s at. get_or s at 0) in
    omega (arith, (t.read s at a.value a.next a.answer).0)

-- an entry that ends by k is read of the first k bytes
module _ (s : List ℕ) (k at : ℕ) (u : k ≤ length s) (g : at ≤ length s) (y : Entry) (e : ℕ) (q : entry s at ≡ got y e) (l : e ≤ k) where
  entry-same : entry (take k s) at ≡ entry s at
  entry-same = kept_by (stable_entry tt) s k at y e u g q l ∙ sym q

  feature-same : (index : ℕ) → feature_at index (take k s) at ≡ feature_at index s at
  unfolding feature_at
  feature-same index = ap (λ (r : Answer Entry). bind r (λ y n. nth index y.features)) entry-same

  features-same : (n : ℕ) → n ≤ length y.features → list_of n (λ before. feature) (take k s) y.first ≡ list_of n (λ before. feature) s y.first
  unfolding list_of
  features-same n h = listed_kept (λ before. stable_feature tt) s (λ before. feature-within s) k n u (entry_listed s at q) l h

  entry-given : map_answer peer_spec_of (entry s at) ≡ got (peer_spec_of y) e
  unfolding map_answer
  entry-given = rw q

-- the entry of a handshake stands after the timestamp
handshake-entry : (s : List ℕ) {h : EntryHandshake} {e : ℕ} → handshake s 0 ≡ got h e → (at : ℕ) × (at ≤ length s) × (entry s at ≡ got h.entry e)
unfolding handshake
handshake-entry s {h} {e} q =
    let a = bind-got (vlq s 0) (λ t n. bind (entry s n) (λ y m. got (record { timestamp = t; entry = y }) m)) q in
    let b = bind-got (entry s a.next) (λ y m. got (record { timestamp = a.value; entry = y }) m) a.rest in
    let x : b.value ≡ h.entry = ap (λ (h : EntryHandshake). h.entry) (value_of b.rest) in (
      a.next,
      stable_ends {is_cut = any_cut} (stable_vlq tt) s 0 a.value a.next (omega arith) a.answer,
      rw (x, end_of_lem b.rest) at b.answer,
    )

module _ (network : Network) (cap : ℕ) (s : List ℕ) where
  pub reached_entry : (k at : ℕ) → k ≤ length s → (i : HandshakeItem) → given network cap s at ≡ StepReads.Handshake i → i.end.0 ≤ k
      → SameEntry (take k s) s i
  reached_entry k at u i q l =
      let g = handshake-opened network cap s at i (item_given_lem network cap s at (StepReads.Handshake i) q tt) in
      let a = handshake-entry s g.read in
      go g.of g.same a.0 a.1 a.2
    where
      go : (h : EntryHandshake) → i.handshake ≡ handshake_of h → (at : ℕ) → at ≤ length s → entry s at ≡ got h.entry i.end.0 → SameEntry (take k s) s i
      go h e at b r =
          let p : i.handshake.peer ≡ peer_spec_of h.entry = ap (λ (x : Handshake). x.peer) e in
          let z : h.entry.agent.start - 1 ≡ at = omega (arith, entry-agent s at r) in
          record {
            peer = rw (p, z) (entry-given s k at u b h.entry i.end.0 r l);
            same = rw (p, z) (entry-same s k at u b h.entry i.end.0 r l);
            feature_by_index = rw (p, z) (feature-same s k at u b h.entry i.end.0 r l);
            read_features = rw p (features-same s k at u b h.entry i.end.0 r l);
          }
