-- The values and the verdicts that are put together from what is given of a session's items are those of the reading.
use Prim.Native.Nat.{ℕ, zero, suc, ◌-◌}
use Rattle.std.proofs.Common.{arith}
use mathlib.Core.List.{List, [], ◌∷◌, map, flat_map}
use Rattle.std.proofs.Math.Path.{◌≡◌, refl, ap}
use Rattle.std.proofs.Math.ListN.{length}
use Rattle.wire.specs.Bytes.{Each, none, more}
use Rattle.wire.specs.Reader.{Answer, got, refused}
use Rattle.types.specs.declared.Network.{Network}
use Rattle.handshake.specs.Entry.{EntryHandshake, handshake}
use Rattle.handshake_read.proofs.ValuesLaws.{handshake_given_lem}
use Rattle.frame.specs.Frame.{BodyFrame, frame}
use Rattle.frame.proofs.FrameLaws.{frame-places}
use Rattle.messages.specs.Message as Bodies
use Rattle.messages.specs.Message.{Message, message}
use Rattle.messages_read.specs.Answers as Given
use Rattle.messages_read.specs.ValuesLaws.{message_given_lem}
use Rattle.walk.proofs.PlacesLaws.{reading-each, FieldsRead, a_handshake, a_message, fields_read}
use Rattle.walk.specs.Session.{Fields, Verdict, Content, message_verdict, handshake_item, message_item, frame_item, handshake_at, message_at, session_reading}
use Rattle.walk.proofs.SessionLaws.{session_readers}
use Rattle.walk.specs.Walk.{opened, Item, item}
use Rattle.walk.proofs.WalkLaws.{open_at}
use Rattle.walk.specs.WrittenSession.{Value, session_handshake, session_message, fields_value, item_values}
use Rattle.walk_read.specs.Given.{item_given}
use Rattle.walk_read.specs.Steps.{item_of, step_of}
use Rattle.walk_read.specs.Values.{given_value, given_values, message_verdict_given, verdict_given}

module _ (network : Network) (cap : ℕ) (s : List ℕ) where
  fields_given : (at : ℕ) {g : Fields} {end : ℕ} → FieldsRead network cap s at g end → (v : Verdict)
      → given_value cap s (item_of network s at end g v) ≡ fields_value g ∷ []
  unfolding item_of given_value fields_value
  fields_given at (a_handshake q) v = ap (λ x. session_handshake x ∷ []) (handshake_given_lem s q)
  fields_given at (a_message {f = f} {e = e} q b) v =
      let p = frame-places network s at q in
      let n : e - f.body.start ≡ length f.body.bytes = omega (arith, p.ends) in
      rw (n, ← p.stands) (ap (λ x. session_message x ∷ []) (message_given_lem f.body.bytes network cap f.code b))

  -- where each answer is made the value of its item
  made_each : (is : List (Item Content)) → Each (λ i. given_value cap s (step_of network s (item i)) ≡ fields_value i.holds.fields ∷ []) is
      → given_values cap s (map (item_given network s) is) ≡ item_values is
  unfolding given_values item_values item_given flat_map
  made_each [] none = refl
  made_each (i ∷ is) (more e es) = rw e (ap (λ (l : List Value). fields_value i.holds.fields ∷ l) (made_each is es))

  pub items-given : given_values cap s (map (item_given network s) (session_reading network cap s).items) ≡ item_values (session_reading network cap s).items
  unfolding session_reading step_of
  items-given =
      made_each _
      (reading-each (session_readers network cap) s (λ i. given_value cap s (step_of network s (item i)) ≡ fields_value i.holds.fields ∷ [])
      (λ at end c q. fields_given at (fields_read network cap s at end c q) c.verdict))

  -- ---- verdicts

  message_verdict_lem : (body : List ℕ) (m : Message) → message_verdict_given (Given.message_of network body m) ≡ message_verdict network m
  unfolding message_verdict
  message_verdict_lem body Bodies.get_peers = refl
  message_verdict_lem body (Bodies.peers l) = refl
  message_verdict_lem body (Bodies.modifier_request type l) = refl
  message_verdict_lem body (Bodies.modifier_response type l) = refl
  message_verdict_lem body (Bodies.inv type l) = refl
  message_verdict_lem body (Bodies.sync_info b) = refl
  message_verdict_lem body (Bodies.unknown b) = refl

  content-of : {c d : Content} {e end : ℕ} → opened c e ≡ opened d end → c ≡ d
  content-of p = cc

  abbrev SameVerdict : ℕ → ℕ → Content → Type 0
  SameVerdict at end c = verdict_given (item_of network s at end c.fields c.verdict) ≡ c.verdict

  handshake_verdict_lem : (r : Answer EntryHandshake) (at end : ℕ) (c : Content) → handshake_item network r ≡ opened c end → SameVerdict at end c
  unfolding handshake_item item_of verdict_given
  handshake_verdict_lem (got h e) at end c p = rw (← content-of p) refl
  handshake_verdict_lem (refused n) at end c p = let z : ◌≡◌ {A = ℕ} 0 1 = cc in absurd (omega arith)

  opened-verdict : (f : BodyFrame) (e : ℕ) (r : Answer Message) (at end : ℕ) (c : Content) → message_item network f e r ≡ opened c end → SameVerdict at end c
  unfolding message_item item_of verdict_given
  opened-verdict f e (got m next) at end c p = rw (← content-of p) (message_verdict_lem _ m)
  opened-verdict f e (refused n) at end c p = let z : ◌≡◌ {A = ℕ} 0 1 = cc in absurd (omega arith)

  frame-verdict : (r : Answer BodyFrame) (at end : ℕ) (c : Content) → frame_item network cap r ≡ opened c end → SameVerdict at end c
  unfolding frame_item
  frame-verdict (got f e) at end c p = opened-verdict f e (message cap f.code f.body.bytes 0) at end c p
  frame-verdict (refused n) at end c p = let z : ◌≡◌ {A = ℕ} 0 1 = cc in absurd (omega arith)

  same-verdict : (at end : ℕ) (c : Content) → open_at Content (handshake_at network) (message_at network cap) s at ≡ opened c end → SameVerdict at end c
  unfolding open_at handshake_at message_at
  same-verdict zero end c p = handshake_verdict_lem (handshake s 0) 0 end c p
  same-verdict (suc at) end c p = frame-verdict (frame network s (suc at)) (suc at) end c p

  verdict-each : (is : List (Item Content)) → Each (λ i. SameVerdict i.start i.end i.holds) is
      → map (λ i. verdict_given i.holds) (map (item_given network s) is) ≡ map (λ i. i.holds.verdict) is
  unfolding item_given step_of
  verdict-each [] none = refl
  verdict-each (i ∷ is) (more e es) = rw e (ap (λ (l : List Verdict). i.holds.verdict ∷ l) (verdict-each is es))

  pub verdicts_given : map (λ i. verdict_given i.holds) (map (item_given network s) (session_reading network cap s).items)
      ≡ map (λ i. i.holds.verdict) (session_reading network cap s).items
  unfolding session_reading
  verdicts_given =
      verdict-each _
      (reading-each (session_readers network cap) s (λ i. SameVerdict i.start i.end i.holds) same-verdict)
