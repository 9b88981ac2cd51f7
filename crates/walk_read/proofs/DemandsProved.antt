-- The demands, from the theorems on what is given and, of a line that grows, from that of the walk.
use Rattle.std.specs.Prelude.{ℕ, ◌≤◌, ◌≡◌, length, take}
use Rattle.std.proofs.Common.{arith, ◌∙◌, length-append}
use mathlib.Core.List.{List, [], ◌∷◌, ◌++◌, map, map-append}
use Rattle.std.proofs.Math.Logic.{⊎_elim}
use Rattle.std.proofs.Math.Path.{refl, sym, ap}
use Rattle.std.proofs.Math.Seq.{take-append_seam}
use Rattle.wire.specs.Numbers.{lt-or_ge}
use Rattle.types.specs.declared.Network.{Network}
use Rattle.handshake.specs.Entry.{Entry, entry}
use Rattle.messages.specs.Message.{Message}
use Rattle.messages_peers_read.specs.declared.Peers.{Peers}
use Rattle.messages_read.specs.Values.{ReadFrom, ListGiven, no_peers, peers, request, response, inv, sync_info, unknown}
use Rattle.messages_read.specs.declared.Message as Given
use Rattle.messages_read.specs.declared.Message.TheVariants as Messages
use Rattle.walk.proofs.CallsLaws.{answers_once}
use Rattle.walk.specs.CutRule.{end_by, last_end, CutRule}
use Rattle.walk.proofs.CutRuleLaws.{end_by_yes, end_by_no}
use Rattle.walk.proofs.DemandsProved.{exactly_by, an_end, end-at, last_end_lem, no_items, is_cut_lem, message-values, handshake-first}
use Rattle.walk.specs.Session.{Content, session_reading}
use Rattle.walk.specs.Theorems.{GoesOn}
use Rattle.walk.proofs.TheoremsProved.{cut_anywhere, line_grows}
use Rattle.walk.specs.Walk.{Item, Reading}
use Rattle.walk.specs.WrittenSession.{Value, write_value, session_bytes, HandshakeFirst}
use Rattle.walk_read.specs.Demands.{GivenAnswered, Cut, GivenCutItems, GivenCutCleanly, GivenCutStops, GivenCutOwnStop, CutByIndex, VerdictInOrder, PeersFromPlace, GivenWritesRead, GrowsFromStop, GrowsFromEnd, GivenStopStays}
use Rattle.walk_read.specs.Given.{GivenFrom, item_given, given_reading}
use Rattle.walk_read.proofs.GivenLaws.{given-cut, seen, steps-given}
use Rattle.walk_read.proofs.GivenTheoremsProved.{given_are_reading, given_by_cut, reached_by_index}
use Rattle.walk_read.specs.Values.{verdict_given}
use Rattle.walk_read.proofs.ValuesTheoremsProved.{given_verdicts, given_lists, given_as_written}
use Rattle.walk_read.specs.declared.StepRead.{StepRead}

-- ---- lists that are the same seen

rest_of : {A : Type 0} → List A → List A
rest_of [] = []
rest_of (a ∷ l) = l

in_order_lem : {A B C : Type 0} (f : A → C) (g : B → C) (before after : List A) (before' after' : List B) (a : A) (b : B)
    → map f (before ++ (a ∷ after)) ≡ map g (before' ++ (b ∷ after')) → length before ≡ length before' → f a ≡ g b
unfolding rest_of
in_order_lem f g [] after [] after' a b e h = cc
in_order_lem f g [] after (y ∷ before') after' a b e h = absurd (omega (arith, h))
in_order_lem f g (x ∷ before) after [] after' a b e h = absurd (omega (arith, h))
in_order_lem f g (x ∷ before) after (y ∷ before') after' a b e h = in_order_lem f g before after before' after' a b (ap rest_of e) (omega (arith, h))

-- ---- the list of Peers

peers_of_lem : {body : List ℕ} {end : ℕ} {m : Message} {given : Given.Message} → ListGiven body end m given → (p : Peers) → given ≡ Messages.Peers p
    → (l : List Entry) × ReadFrom (λ before. entry) body p.count p.start.0 l end
peers_of_lem (peers {l = l} {p = p'} x) p q = let e : p' ≡ p = cc in (l, rw (← e) x)
peers_of_lem no_peers p q = let z : ◌≡◌ {A = ℕ} 0 1 = cc in absurd (omega arith)
peers_of_lem (request x) p q = let z : ◌≡◌ {A = ℕ} 0 1 = cc in absurd (omega arith)
peers_of_lem (response x) p q = let z : ◌≡◌ {A = ℕ} 0 1 = cc in absurd (omega arith)
peers_of_lem (inv x) p q = let z : ◌≡◌ {A = ℕ} 0 1 = cc in absurd (omega arith)
peers_of_lem sync_info p q = let z : ◌≡◌ {A = ℕ} 0 1 = cc in absurd (omega arith)
peers_of_lem unknown p q = let z : ◌≡◌ {A = ℕ} 0 1 = cc in absurd (omega arith)

-- ---- the demands

module _ (network : Network) (cap : ℕ) where
  pub answered : GivenAnswered network cap
  answered s = (given_reading network cap s, (given_are_reading network cap s (given_reading network cap s)).1 refl)

  rule : (s : List ℕ) (k : ℕ) (full part : Reading StepRead) → Cut network cap s k full part → CutRule k full part
  rule s k full part c = given_by_cut network cap s k c.within full part c.whole c.before

  pub cut-items : GivenCutItems network cap
  cut-items s k full part c = rw (rule s k full part c).items (exactly_by k _)

  pub cut-cleanly : GivenCutCleanly network cap
  cut-cleanly s k full part c =
      let r = (rule s k full part c).cleanly in
      (λ e. an_end (r.0 e), λ a. r.1 (end-at k _ a))

  pub cut-stops : GivenCutStops network cap
  cut-stops s k full part c not =
      let u = rule s k full part c in
      let r = u.stops (λ e. not (an_end e)) in (
        r.0,
        r.1,
        _,
        r.2,
        λ before last e. ap (last_end 0) (sym u.items ∙ e) ∙ last_end_lem 0 before last,
        λ e. ap (last_end 0) (sym u.items ∙ e) ∙ no_items StepRead,
      )

  pub cut-own-stop : GivenCutOwnStop network cap
  cut-own-stop s k full part c layer n at e not = (rule s k full part c).own layer n at e (λ t. not (is_cut_lem layer n t))

  pub cut-by_index : CutByIndex network cap
  cut-by_index s k at index h =
      let r = reached_by_index network cap s k at h in (
        λ i g l. let b = r.0 i g l in (b.id_by_index index, b.payload_by_index index, b.entry_by_index index),
        λ i g l. (r.1 i g l).feature_by_index index,
      )

  pub verdict-in_order : VerdictInOrder network cap
  verdict-in_order s r g before after i e before' after' j e' h =
      in_order_lem (λ i. verdict_given i.holds) (λ i. i.holds.verdict) before after before' after' i j
      (sym (ap (map (λ i. verdict_given i.holds)) e) ∙ given_verdicts network cap s r g ∙ ap (map (λ i. i.holds.verdict)) e') h

  pub peers-from-place : PeersFromPlace network cap
  peers-from-place s at i p q e =
      let g = given_lists network cap s at i q in
      let x = peers_of_lem g.3 p e in
      (x.0, g.1, sym x.1.0, x.1.1)

  pub writes-read : GivenWritesRead network cap
  unfolding session_bytes
  writes-read ws out d calls h ms o e r g =
      let f : HandshakeFirst d.accepted = rw e (handshake-first h ms o) in
      let w = given_as_written network cap ws out d calls f r g in
      (w.0 ∙ ap (map write_value) e ∙ ap (λ (l : List Value). write_value h ∷ l) (message-values ms), w.1)

  -- ---- a line that grows

  -- what is given of the items that end by k is the same over the first k bytes
  same_by : (k : ℕ) (u : List ℕ) (is : List (Item Content)) → map (item_given network (take k u)) (end_by k is) ≡ map (item_given network u) (end_by k is)
  unfolding end_by
  same_by k u [] = refl
  same_by k u (i ∷ is) =
      ⊎_elim
      (λ l. rw (end_by_no k i is l) (same_by k u is))
      (λ l. rw (end_by_yes k i is l) (ap (λ (j : Item StepRead). j ∷ map (item_given network (take k u)) (end_by k is)) (given-cut network k u i l)
      ∙ ap (λ (js : List (Item StepRead)). item_given network u i ∷ js) (same_by k u is)))
      (lt-or_ge k i.end)

  same-items : (k : ℕ) (s u : List ℕ) → k ≤ length u → take k u ≡ s
      → map (item_given network s) (session_reading network cap s).items ≡ map (item_given network u) (session_reading network cap s).items
  same-items k s u h e = rw (← e, (cut_anywhere network cap u k h).items) (same_by k u (session_reading network cap u).items)

  same_after : (s t : List ℕ) → map (item_given network s) (session_reading network cap s).items ≡ map (item_given network (s ++ t)) (session_reading network cap s).items
  same_after s t = same-items (length s) s (s ++ t) (omega (arith, length-append s t)) (take-append_seam s t)

  goes : (s t : List ℕ) (at : ℕ) (r q : Reading StepRead) → GoesOn network cap s t at → GivenFrom network cap s 0 r → GivenFrom network cap (s ++ t) at q
      → GivenFrom network cap (s ++ t) 0 (record { items = r.items ++ q.items; ending = q.ending })
  unfolding given_reading
  goes s t at r q o g f =
      let g' : Item Content → Item StepRead = item_given network (s ++ t) in
      let e : r ≡ given_reading network cap s = (given_are_reading network cap s r).0 g in
      let d : q ≡ seen g' o.rest = answers_once f (steps-given network cap (s ++ t) ((o.steps o.rest).1 refl)) in
      (given_are_reading network cap (s ++ t) _).1 (rw (e, d, o.whole)
      (ap (λ (is : List (Item StepRead)). record { items = is; ending = o.rest.ending })
      (ap (λ (is : List (Item StepRead)). is ++ map g' o.rest.items) (same_after s t)
      ∙ sym (map-append g' (session_reading network cap s).items o.rest.items))))

  ending_of : (s : List ℕ) (r : Reading StepRead) → GivenFrom network cap s 0 r → (session_reading network cap s).ending ≡ r.ending
  unfolding given_reading
  ending_of s r g = rw ((given_are_reading network cap s r).0 g) refl

  pub grows_from-stop : GrowsFromStop network cap
  grows_from-stop s t r q layer n at g e f = goes s t at r q ((line_grows network cap s t).stops layer n at (ending_of s r g ∙ e)) g f

  pub grows_from-end : GrowsFromEnd network cap
  grows_from-end s t r q g e f = goes s t (length s) r q ((line_grows network cap s t).ended (ending_of s r g ∙ e)) g f

  pub stop-stays : GivenStopStays network cap
  unfolding given_reading
  stop-stays s t r layer n at g e not =
      let w = (line_grows network cap s t).stays layer n at (ending_of s r g ∙ e) (λ c. not (is_cut_lem layer n c)) in
      (given_are_reading network cap (s ++ t) r).1 ((given_are_reading network cap s r).0 g
      ∙ rw w (ap (λ (is : List (Item StepRead)). record { items = is; ending = (session_reading network cap s).ending }) (same_after s t)))
