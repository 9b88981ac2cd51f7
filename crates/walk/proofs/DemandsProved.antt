-- The demands, from the theorems: the cut rule's parts in other words, and written sessions by their accepted handshake and messages.
use Prim.Native.Nat.{ℕ, ◌+◌, ◌≤◌}
use native.Mathlib.Omega.{arith}
use Rattle.std.specs.Prelude.{Bool, true, false, ◌||◌, ◌⊎◌, ◌≡◌, T, eqb, take, drop}
use mathlib.Core.List.{List, [], ◌∷◌, ◌++◌, map, flat_map}
use Rattle.std.proofs.Common.{inl, inr, ◌∙◌, eqb→eq, take-append-drop, length-drop, length-take-le, take-take, le-leb}
use Rattle.std.proofs.Math.Logic.{⊎_elim}
use Rattle.std.proofs.Math.Path.{refl, sym, ap}
use Rattle.std.proofs.Math.ListN.{length}
use Rattle.std.proofs.lemmas.Bool.{lt-leb}
use Rattle.wire.specs.Bytes as Bytes
use Rattle.wire.specs.Bytes.{Each}
use Rattle.wire.proofs.BytesLaws.{each_of}
use Rattle.wire.specs.Numbers.{lt-or_ge}
use Rattle.wire.specs.Reader.{Segment}
use Rattle.wire.specs.ReadsBack.{StandsAt, Placed}
use Rattle.wire.proofs.ReadsBackLaws.{stands_right, stands-whole}
use Rattle.wire.specs.Output.{output_after}
use Rattle.wire.proofs.OutputLaws.{length-put, put-before, put-here, put-after}
use Rattle.types.specs.declared.Network.{Network}
use Rattle.handshake.specs.Entry.{EntryFeature, Entry}
use Rattle.handshake.specs.Places.{EntryPlaced}
use Rattle.messages.specs.Message.{Payload, Message, get_peers, peers, modifier_request, modifier_response, inv, sync_info, unknown}
use Rattle.messages.specs.Places.{IdPlaced, PayloadPlaced, MessagePlaced}
use Rattle.messages.specs.Value.{MessageValue}
use Rattle.messages.specs.Writes.{MessageWrite, value_of}
use Rattle.walk.specs.Walk as Walk
use Rattle.walk.specs.Walk.{Layer, Item, is_cut}
use Rattle.walk.specs.Session.{Fields, handshake_fields, message_fields, Content}
use Rattle.walk.specs.Places.{FieldsPlaced}
use Rattle.walk.specs.CutRule.{end_by, last_end, EndsAt, here, there}
use Rattle.walk.specs.WrittenSession as Session
use Rattle.walk.specs.WrittenSession.{Write, write_handshake, write_built, write_message, Value, session_handshake, session_message, write_value, write_bytes, session_bytes, is_handshake, OnlyMessages, HandshakeFirst, first, item_values}
use Rattle.walk.proofs.SessionLaws.{session_writers}
use Rattle.walk.specs.Demands.{Exactly, none, with, without, AnEnd, IsCut, OfHandshake, Answered, RefusedLeaves, ChangesItsBytes, CutItems, CutCleanly, CutStops, CutOwnStop, EveryList, CallsGoOn, WritesRead, EqualBytes, ReadsOn, GrowsAtCut, GrowsAtEnd, StopStays, entry_parts, message_parts, item_parts, PartsStand}
use Rattle.walk.specs.Calls.{call}
use Rattle.walk.proofs.CallsLaws.{write_all_calls}
use Rattle.walk.specs.Theorems.{GoesOn}
use Rattle.walk.proofs.TheoremsProved.{cut_anywhere, places_hold, line_grows, reads_as_written, one_meaning, ends}

-- ---- the cut rule's words

module _ {F : Type 0} where
  pub exactly_by : (k : ℕ) (is : List (Item F)) → Exactly (λ i. i.end ≤ k) (end_by k is) is
  unfolding end_by
  exactly_by k [] = none
  exactly_by k (i ∷ is) =
      ⊎_elim (λ h. let past : ¬ (i.end ≤ k) = λ g. omega arith in rw (lt-leb i.end k h) (without past (exactly_by k is)))
      (λ h. rw (le-leb i.end k h) (with h (exactly_by k is)))
      (lt-or_ge k i.end)

  pub an_end : {k : ℕ} {is : List (Item F)} → EndsAt k is → AnEnd k is
  an_end (here {i = i} {is = is} e) = ([], i, is, refl, e)
  an_end (there {i = j} s) =
      let r = an_end s in
      (j ∷ r.0, r.1, r.2, ap (λ (l : List (Item F)). j ∷ l) r.3, r.4)

  ends_at : (k : ℕ) (before : List (Item F)) (i : Item F) (after : List (Item F)) → i.end ≡ k → EndsAt k (before ++ (i ∷ after))
  ends_at k [] i after e = here e
  ends_at k (j ∷ before) i after e = there (ends_at k before i after e)

  pub end-at : (k : ℕ) (is : List (Item F)) → AnEnd k is → EndsAt k is
  end-at k is (before, i, after, e, f) = rw e (ends_at k before i after f)

  pub last_end_lem : (at : ℕ) (before : List (Item F)) (i : Item F) → last_end at (before ++ (i ∷ [])) ≡ i.end
  unfolding last_end
  last_end_lem at [] i = refl
  last_end_lem at (j ∷ before) i = last_end_lem j.end before i

pub no_items : (F : Type 0) → last_end {F = F} 0 [] ≡ 0
unfolding last_end
no_items F = refl

one_of : (a b : Bool) → T (a || b) → T a ⊎ T b
one_of true b t = inl tt
one_of false b t = inr t

pub is_cut_lem : (layer : Layer) (n : ℕ) → T (is_cut layer n) → IsCut layer n
unfolding is_cut
is_cut_lem Walk.handshake n t = inl (refl, eqb→eq n 1 t)
is_cut_lem Walk.frame n t = inr (refl, ⊎_elim (λ a. inl (eqb→eq n 5 a)) (λ b. inr (eqb→eq n 8 b)) (one_of (eqb n 5) (eqb n 8) t))
is_cut_lem Walk.body n t = absurd t

-- ---- the lists of accepted writes

only_messages : (ms : List MessageWrite) → OnlyMessages (map write_message ms)
unfolding is_handshake
only_messages [] = Session.none
only_messages (m ∷ ms) = Session.more refl (only_messages ms)

of_handshake_lem : (w : Write) → OfHandshake w → is_handshake w ≡ true
unfolding is_handshake
of_handshake_lem (write_handshake timestamp l k) h = refl
of_handshake_lem (write_built c) h = refl
of_handshake_lem (write_message m) h = absurd (h m refl)

pub message-values : (ms : List MessageWrite) → map write_value (map write_message ms) ≡ map (λ m. session_message (value_of m)) ms
unfolding write_value
message-values [] = refl
message-values (m ∷ ms) = ap (λ (l : List Value). session_message (value_of m) ∷ l) (message-values ms)

pub handshake-first : (h : Write) (ms : List MessageWrite) → OfHandshake h → HandshakeFirst (h ∷ map write_message ms)
handshake-first h ms o = first (of_handshake_lem h o) (only_messages ms)

-- the messages among values
messages_of : List Value → List MessageValue
messages_of [] = []
messages_of (session_handshake v ∷ vs) = messages_of vs
messages_of (session_message v ∷ vs) = v ∷ messages_of vs

messages_of_lem : (ms : List MessageWrite) → messages_of (map write_value (map write_message ms)) ≡ map value_of ms
unfolding messages_of write_value
messages_of_lem [] = refl
messages_of_lem (m ∷ ms) = ap (λ (l : List MessageValue). value_of m ∷ l) (messages_of_lem ms)

messages_after : (w : Write) → OfHandshake w → (ms : List MessageWrite) → messages_of (map write_value (w ∷ map write_message ms)) ≡ map value_of ms
unfolding messages_of write_value
messages_after (write_handshake timestamp l k) h ms = messages_of_lem ms
messages_after (write_built c) h ms = messages_of_lem ms
messages_after (write_message m) h ms = absurd (h m refl)

-- ---- the parts of an item

module _ {A B : Type 0} {P : A → Type 0} {Q : B → Type 0} where
  each_map : (f : A → B) → ((a : A) → P a → Q (f a)) → {l : List A} → Each P l → Each Q (map f l)
  each_map f h Bytes.none = Bytes.none
  each_map f h (Bytes.more {a = a} p ps) = Bytes.more (h a p) (each_map f h ps)

each_append : {A : Type 0} {P : A → Type 0} {k l : List A} → Each P k → Each P l → Each P (k ++ l)
each_append Bytes.none h = h
each_append (Bytes.more p ps) h = Bytes.more p (each_append ps h)

module _ {A B : Type 0} {P : A → Type 0} {Q : B → Type 0} where
  each_flat : (f : A → List B) → ((a : A) → P a → Each Q (f a)) → {l : List A} → Each P l → Each Q (flat_map f l)
  unfolding flat_map
  each_flat f h Bytes.none = Bytes.none
  each_flat f h (Bytes.more {a = a} p ps) = each_append (h a p) (each_flat f h ps)

entry_parts_lem : (s : List ℕ) (e : Entry) → EntryPlaced s e → Each (Placed s) (entry_parts e)
unfolding entry_parts
entry_parts_lem s e p =
    Bytes.more p.agent (Bytes.more p.name (each_map {P = λ f. Placed s f.body} (λ (f : EntryFeature). f.body) (λ f h. h) p.features))

-- the whole body
whole_part : (body bytes : List ℕ) → bytes ≡ body → Each (Placed body) (record { start = 0; bytes = bytes } ∷ [])
whole_part body bytes e = rw e (Bytes.more (stands-whole body) Bytes.none)

message_parts_lem : (body : List ℕ) (m : Message) → MessagePlaced body m → Each (Placed body) (message_parts m)
unfolding message_parts MessagePlaced
message_parts_lem body get_peers h = Bytes.none
message_parts_lem body (peers es) h = each_flat {P = EntryPlaced body} entry_parts (entry_parts_lem body) h
message_parts_lem body (modifier_request type ids) h = each_of {P = IdPlaced body} (λ g p. p.1) h
message_parts_lem body (modifier_response type ps) h =
    each_flat {P = PayloadPlaced body} (λ (p : Payload). p.id ∷ p.body ∷ []) (λ p q. Bytes.more q.0.1 (Bytes.more q.1 Bytes.none)) h
message_parts_lem body (inv type ids) h = each_of {P = IdPlaced body} (λ g p. p.1) h
message_parts_lem body (sync_info bytes) h = whole_part body bytes h
message_parts_lem body (unknown bytes) h = whole_part body bytes h

-- what stands in the body stands in the session
through_body : (s : List ℕ) (start : ℕ) (body : List ℕ) → StandsAt s start body → (g : Segment) → Placed body g
    → take (length g.bytes) (drop (start + g.start) s) ≡ g.bytes
through_body s start body h g p =
    let w = p.within in
    let e : length (take g.start body) ≡ g.start = length-take-le g.start body (omega arith) in
    let whole : StandsAt s start (take g.start body ++ drop g.start body) = rw (take-append-drop g.start body) h in
    let r : StandsAt s (start + g.start) (drop g.start body) = rw e at (stands_right (take g.start body) (drop g.start body) whole) in
    let size : length g.bytes ≤ length (drop g.start body) = omega (arith, length-drop g.start body) in
    sym (take-take (length g.bytes) (length (drop g.start body)) (drop (start + g.start) s) size)
    ∙ ap (take (length g.bytes)) r.bytes ∙ p.bytes

item_parts_lem : (s : List ℕ) (end : ℕ) (f : Fields) → FieldsPlaced s end f
    → Each (λ g. take (length g.bytes) (drop g.start s) ≡ g.bytes) (item_parts f)
unfolding FieldsPlaced item_parts
item_parts_lem s end (handshake_fields h) p = each_of {P = Placed s} (λ g q. q.bytes) (entry_parts_lem s h.entry p)
item_parts_lem s end (message_fields code start m) p =
    each_map {P = Placed p.body} (λ (g : Segment). record { start = start + g.start; bytes = g.bytes }) (through_body s start p.body p.stands)
    (message_parts_lem p.body m p.placed)

-- ---- the demands

module _ (network : Network) (cap : ℕ) where
  pub answered : Answered network cap
  answered s = (ends network cap s).0

  pub refused_leaves : RefusedLeaves network cap
  unfolding output_after
  refused_leaves w out left at n c = c.output

  pub changes_its_bytes : ChangesItsBytes network cap
  unfolding output_after
  changes_its_bytes w out left at end c =
      let bs : List ℕ = write_bytes network cap w in
      let e = (session_writers network cap).ends w out at end (sym c.answer) in
      let room : at + length bs ≤ length out = omega (arith, e.0, e.1) in
      rw (c.output, e.0) (
        refl,
        room,
        length-put out at bs,
        put-before out at bs room,
        put-here out at bs room,
        put-after out at bs room,
      )

  pub cut-items : CutItems network cap
  cut-items s k h = rw (cut_anywhere network cap s k h).items (exactly_by k _)

  pub cut-cleanly : CutCleanly network cap
  cut-cleanly s k h =
      let c = (cut_anywhere network cap s k h).cleanly in
      (λ e. an_end (c.0 e), λ a. c.1 (end-at k _ a))

  pub cut-stops : CutStops network cap
  cut-stops s k h not =
      let c = cut_anywhere network cap s k h in
      let r = c.stops (λ e. not (an_end e)) in (
        r.0,
        r.1,
        _,
        r.2,
        λ before last e. ap (last_end 0) (sym c.items ∙ e) ∙ last_end_lem 0 before last,
        λ e. ap (last_end 0) (sym c.items ∙ e) ∙ no_items Content,
      )

  pub cut-own-stop : CutOwnStop network cap
  cut-own-stop s k h layer n at e not = (cut_anywhere network cap s k h).own layer n at e (λ t. not (is_cut_lem layer n t))

  pub every-list : EveryList network cap
  every-list ws t = write_all_calls network cap t

  pub calls_go-on : CallsGoOn network cap
  calls_go-on w ws out left at r d = call

  pub writes-read : WritesRead network cap
  unfolding item_values session_bytes
  writes-read ws out d calls h ms o e =
      let f : HandshakeFirst d.accepted = rw e (handshake-first h ms o) in
      let r = reads_as_written network cap ws out d calls f in
      (r.0 ∙ ap (map write_value) e ∙ ap (λ (l : List Value). write_value h ∷ l) (message-values ms), r.1)

  pub equal_bytes : EqualBytes network cap
  unfolding session_bytes
  equal_bytes ws ws' out out' d d' calls calls' h h' ms ms' o o' e e' b =
      let f : HandshakeFirst d.accepted = rw e (handshake-first h ms o) in
      let f' : HandshakeFirst d'.accepted = rw e' (handshake-first h' ms' o') in
      let m : map write_value (h ∷ map write_message ms) ≡ map write_value (h' ∷ map write_message ms') =
      sym (ap (map write_value) e) ∙ one_meaning network cap ws ws' out out' d d' calls calls' f f' b ∙ ap (map write_value) e' in
      (cc, sym (messages_after h o ms) ∙ ap messages_of m ∙ messages_after h' o' ms')

  reads_on : {s t : List ℕ} {at : ℕ} → GoesOn network cap s t at → ReadsOn network cap s t at
  reads_on g =
      (λ r q. let e : r ≡ g.rest = (g.steps r).0 q in rw (g.whole, e) (refl, refl), (g.rest, (g.steps g.rest).1 refl))

  pub grows_at-cut : GrowsAtCut network cap
  grows_at-cut s t layer n at q c = reads_on ((line_grows network cap s t).stops layer n at q)

  pub grows_at-end : GrowsAtEnd network cap
  grows_at-end s t q = reads_on ((line_grows network cap s t).ended q)

  pub stop-stays : StopStays network cap
  stop-stays s t layer n at q not =
      let e = (line_grows network cap s t).stays layer n at q (λ c. not (is_cut_lem layer n c)) in
      rw e (refl, q)

  pub parts_stand : PartsStand network cap
  parts_stand s =
      each_of {P = λ i. FieldsPlaced s i.end i.holds.fields} (λ i p. item_parts_lem s i.end i.holds.fields p) (places_hold network cap s)
