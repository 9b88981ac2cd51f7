-- What is given of an item that ends by a cut is the same over the part and over the whole: `item_of` looks at no byte past
-- the item's end, and not at the length. So the cut rule of the reading is that of the answers.
use Rattle.std.specs.Prelude.{ℕ, ◌-◌, ◌≤◌, ◌≡◌, take}
use Rattle.std.proofs.Common.{arith, ◌∙◌}
use mathlib.Core.List.{List, [], ◌∷◌, map}
use Rattle.std.proofs.Math.Logic.{⊎_elim}
use Rattle.std.proofs.Math.Path.{refl, sym, ap}
use Rattle.wire.specs.Numbers.{lt-or_ge}
use Rattle.wire.proofs.StableLaws.{take-drop-take}
use Rattle.types.specs.declared.Network.{Network}
use Rattle.walk.specs.Walk as Walk
use Rattle.walk.specs.Walk.{Item, item, stop, Reading}
use Rattle.walk.specs.CutRule.{end_by, last_end, EndsAt, here, there, CutRule}
use Rattle.walk.proofs.CutRuleLaws.{end_by_yes, end_by_no}
use Rattle.walk.specs.Session.{Fields, handshake_fields, message_fields, Verdict, Content}
use Rattle.walk.specs.Calls.{more, over, stops, StepsFrom}
use Rattle.walk_read.specs.Steps.{layer_of, body_in, item_of, step_of}
use Rattle.walk_read.specs.declared.StepRead.{StepRead}
use Rattle.walk_read.specs.Given.{given, layer_in, as_step, GivenFrom, item_given}

-- ---- the cut rule of a reading whose items are seen through a function

abbrev pub seen : {F G : Type 0} → (Item F → Item G) → Reading F → Reading G
seen g r = record { items = map g r.items; ending = r.ending }

module _ {F G : Type 0} (g : Item F → Item G) (ends : (i : Item F) → (g i).end ≡ i.end) where
  last-seen : (at : ℕ) (is : List (Item F)) → last_end at (map g is) ≡ last_end at is
  unfolding last_end
  last-seen at [] = refl
  last-seen at (i ∷ is) = rw (ends i) (last-seen i.end is)

  seen-ends : {k : ℕ} {is : List (Item F)} → EndsAt k is → EndsAt k (map g is)
  seen-ends (here {i = i} e) = here (ends i ∙ e)
  seen-ends (there m) = there (seen-ends m)

  ends-seen : {k : ℕ} (is : List (Item F)) → EndsAt k (map g is) → EndsAt k is
  ends-seen [] x = elim x [ ]
  ends-seen (i ∷ is) (here e) = here (sym (ends i) ∙ e)
  ends-seen (i ∷ is) (there m) = there (ends-seen is m)

-- h is g on the items that end by k
module _ {F G : Type 0} (k : ℕ) (g h : Item F → Item G) (ends : (i : Item F) → (g i).end ≡ i.end) (ends' : (i : Item F) → (h i).end ≡ i.end)
    (same : (i : Item F) → i.end ≤ k → h i ≡ g i) where
  seen_by : (is : List (Item F)) → map h (end_by k is) ≡ end_by k (map g is)
  unfolding end_by
  seen_by [] = refl
  seen_by (i ∷ is) =
      ⊎_elim
      (λ l. rw (end_by_no k i is l) (seen_by is ∙ sym (end_by_no k (g i) (map g is) (omega (arith, ends i)))))
      (λ l. rw (end_by_yes k i is l) (ap (λ (j : Item G). j ∷ map h (end_by k is)) (same i l) ∙ ap (λ (js : List (Item G)). g i ∷ js) (seen_by is)
      ∙ sym (end_by_yes k (g i) (map g is) (omega (arith, ends i)))))
      (lt-or_ge k i.end)

  pub seen_rule : (full part : Reading F) → CutRule k full part → CutRule k (seen g full) (seen h part)
  seen_rule full part c =
      record {
        items = ap (map h) c.items ∙ seen_by full.items;
        cleanly = (λ e. seen-ends g ends (c.cleanly.0 e), λ m. c.cleanly.1 (ends-seen g ends full.items m));
        stops = λ x.
            let r = c.stops (λ m. x (seen-ends g ends m)) in
            (r.0, r.1, r.2 ∙ ap (Walk.stopped r.0 r.1) (sym (last-seen h ends' 0 (end_by k full.items)) ∙ ap (last_end 0) (seen_by full.items)));
        own = c.own;
      }

-- ---- what is given of an item

body-cut : (k : ℕ) (s : List ℕ) (from end : ℕ) → end ≤ k → body_in (take k s) from end ≡ body_in s from end
body-cut k s from end h =
    ⊎_elim
    (λ l. let z : end - from ≡ 0 = omega arith in rw z refl)
    (λ l. take-drop-take (end - from) from k s (omega arith))
    (lt-or_ge end from)

module _ (network : Network) where
  item-cut : (k : ℕ) (s : List ℕ) (start end : ℕ) (f : Fields) (v : Verdict) → end ≤ k
      → item_of network (take k s) start end f v ≡ item_of network s start end f v
  unfolding item_of
  item-cut k s start end (handshake_fields h) v l = refl
  item-cut k s start end (message_fields code from m) v l = rw (body-cut k s from end l)

  pub given-cut : (k : ℕ) (s : List ℕ) (i : Item Content) → i.end ≤ k → item_given network (take k s) i ≡ item_given network s i
  unfolding item_given step_of
  given-cut k s i l =
      ap (λ (a : StepRead). record { start = i.start; end = i.end; holds = a })
      (item-cut k s i.start i.end i.holds.fields i.holds.verdict l)

  pub given-ends : (s : List ℕ) (i : Item Content) → (item_given network s i).end ≡ i.end
  unfolding item_given
  given-ends s i = refl

  -- ---- an answer as a step of the walk

  as_item : (s : List ℕ) (i : Item Content) → as_step (step_of network s (item i)) ≡ item (item_given network s i)
  unfolding as_step step_of item_of item_given
  as_item s i = go i.start i.end i.holds.fields i.holds.verdict
    where
      go : (start end : ℕ) (f : Fields) (v : Verdict) → as_step (item_of network s start end f v) ≡ item (record { start = start; end = end; holds = item_of network s start end f v })
      go start end (handshake_fields h) v = refl
      go start end (message_fields code from m) v = refl

  layer_in_lem : (l : Walk.Layer) → layer_in (layer_of l) ≡ l
  layer_in_lem Walk.handshake = refl
  layer_in_lem Walk.frame = refl
  layer_in_lem Walk.body = refl

  as_stop : (s : List ℕ) (l : Walk.Layer) (n at : ℕ) → as_step (step_of network s (stop l n at)) ≡ stop l n at
  unfolding as_step step_of
  as_stop s l n at = rw (layer_in_lem l)

  -- the steps of a session are given so
  pub steps-given : (cap : ℕ) (s : List ℕ) {at : ℕ} {r : Reading Content} → StepsFrom network cap s at r → GivenFrom network cap s at (seen (item_given network s) r)
  unfolding given as_step step_of item_given
  steps-given cap s (more {i = i} q rest) =
      more (ap (λ (x : Walk.Step Content). as_step (step_of network s x)) q ∙ as_item s i) (steps-given cap s rest)
  steps-given cap s (over q) = over (ap (λ (x : Walk.Step Content). as_step (step_of network s x)) q)
  steps-given cap s (stops {place = p} {n = n} {layer = l} q) =
      stops (ap (λ (x : Walk.Step Content). as_step (step_of network s x)) q ∙ as_stop s l n p)
