-- The cut rule, for any two readers that keep `ReaderLaws`. The readings of all the bytes and of the first k are followed from one place, step by step,
-- until the part's comes to its end; `PartEnds` says what that end has to do with the items of the full reading.
use Rattle.std.specs.Prelude.{ℕ, ◌≤◌, ◌<◌, List, [], ◌∷◌, ◌⊎◌, ◌≡◌, refl, T, take}
use Rattle.std.proofs.Common.{arith, inl, inr, ⊎_elim, ap, ◌∙◌, le-leb}
use Rattle.std.proofs.Math.Path.{sym}
use Rattle.std.proofs.Math.ListN.{length}
use Rattle.std.proofs.Math.Seq.{length-take-le}
use Rattle.std.proofs.lemmas.Bool.{lt-leb}
use Rattle.wire.specs.Numbers.{lt-or_ge}
use Rattle.walk.specs.Walk.{Layer, Opened, opened, refused_in, Item, Ending, clean, stopped, Reading, is_cut, walk, reading}
use Rattle.walk.specs.CutRule.{end_by, last_end, EndsAt, here, there, CutRule}
use Rattle.walk.proofs.WalkLaws.{Past, OpenedCut, kept, own, short, open_at, ReaderLaws, opened-kept, Walks, over, stops, goes, walks, item_then, walk-over, walk-stops, walk-goes}

-- ---- the items that end by k

module _ {F : Type 0} (k : ℕ) (i : Item F) (is : List (Item F)) where
  pub end_by_yes : i.end ≤ k → end_by k (i ∷ is) ≡ i ∷ end_by k is
  unfolding end_by
  end_by_yes h = rw (le-leb i.end k h)

  pub end_by_no : k < i.end → end_by k (i ∷ is) ≡ end_by k is
  unfolding end_by
  end_by_no h = rw (lt-leb i.end k h)

-- where k is an item's end, some item ends by k
ends_some : {F : Type 0} {k : ℕ} {is : List (Item F)} → EndsAt k is → end_by k is ≡ [] → ⊥
ends_some {k = k} (here {i = i} {is = is} e) q =
    let y : i ∷ end_by k is ≡ [] = sym (end_by_yes k i is (omega arith)) ∙ q in
    let z : ◌≡◌ {A = ℕ} 0 1 = cc in omega arith
ends_some {k = k} (there {i = i} {is = is} m) q =
    ⊎_elim
    (λ g. ends_some m (sym (end_by_no k i is g) ∙ q))
    (λ g. let y : i ∷ end_by k is ≡ [] = sym (end_by_yes k i is g) ∙ q in let z : ◌≡◌ {A = ℕ} 0 1 = cc in absurd (omega arith))
    (lt-or_ge k i.end)

-- ---- the two readings from one place

-- how the part's reading from the place at ends, beside the full reading from there
data PartEnds {F : Type 0} (k at : ℕ) (full : Reading F) : Ending → Type 0 where
  cleanly : ((0 < at) × (at ≡ k)) ⊎ EndsAt k full.items → PartEnds k at full clean
  stopping : {layer : Layer} {n p : ℕ} → (0 < at → at < k) → ¬ (EndsAt k full.items) → p ≡ last_end at (end_by k full.items)
      → T (is_cut layer n) ⊎ (full.ending ≡ stopped layer n p) → PartEnds k at full (stopped layer n p)

record CutFrom {F : Type 0} (k at : ℕ) (full part : Reading F) : Type 0 where
  items : part.items ≡ end_by k full.items
  ending : PartEnds k at full part.ending

-- the part ends at once: no item of the full reading ends by k
module _ {F : Type 0} (k at : ℕ) (full : Reading F) (none : end_by k full.items ≡ []) where
  from_clean : 0 < at → at ≡ k → CutFrom k at full (record { items = []; ending = clean })
  from_clean h e = record { items = sym none; ending = cleanly (inl (h, e)) }

  from-stop : (layer : Layer) (n : ℕ) → (0 < at → at < k) → T (is_cut layer n) ⊎ (full.ending ≡ stopped layer n at)
      → CutFrom k at full (record { items = []; ending = stopped layer n at })
  unfolding last_end
  from-stop layer n b o = record { items = sym none; ending = stopping {p = at} b (λ m. ends_some m none) (rw none) o }

-- both begin with an item that ends by k
from-item : {F : Type 0} (k at : ℕ) (f : F) (end : ℕ) (full part : Reading F) → at < end → end ≤ k → CutFrom k end full part
    → CutFrom k at (item_then at f end full) (item_then at f end part)
unfolding last_end
from-item {F} k at f end full part h g c =
    record { items = ap (λ (is : List (Item F)). i ∷ is) c.items ∙ sym one; ending = go c.ending }
  where
    i : Item F
    i = record { start = at; end = end; holds = f }

    one : end_by k (i ∷ full.items) ≡ i ∷ end_by k full.items
    one = end_by_yes k i full.items g

    last : last_end end (end_by k full.items) ≡ last_end at (end_by k (i ∷ full.items))
    last = rw one

    other : (0 < end → end < k) → ¬ (EndsAt k full.items) → ¬ (EndsAt k (i ∷ full.items))
    other b x (here e) = let y : end < k = b (omega arith) in omega arith
    other b x (there m) = x m

    go : {e : Ending} → PartEnds k end full e → PartEnds k at (item_then at f end full) e
    go (cleanly (inl h)) = cleanly (inr (here h.1))
    go (cleanly (inr m)) = cleanly (inr (there m))
    go (stopping b x p o) = stopping (λ z. omega arith) (other b x) (p ∙ last) o

-- ---- from place 0 it is the cut rule

module _ {F : Type 0} {k : ℕ} {full : Reading F} where
  clean_ends : {e : Ending} → PartEnds k 0 full e → e ≡ clean → EndsAt k full.items
  clean_ends (cleanly (inl h)) q = absurd (omega arith)
  clean_ends (cleanly (inr m)) q = m
  clean_ends (stopping b x p o) q = let z : ◌≡◌ {A = ℕ} 0 1 = cc in absurd (omega arith)

  ends_clean : {e : Ending} → PartEnds k 0 full e → EndsAt k full.items → e ≡ clean
  ends_clean (cleanly c) m = refl
  ends_clean (stopping b x p o) m = absurd (x m)

  ends-stops : {e : Ending} → PartEnds k 0 full e → ¬ (EndsAt k full.items)
      → (layer : Layer) × (n : ℕ) × (e ≡ stopped layer n (last_end 0 (end_by k full.items)))
  ends-stops (cleanly (inl h)) x = absurd (omega arith)
  ends-stops (cleanly (inr m)) x = absurd (x m)
  ends-stops (stopping {layer = layer} {n = n} b x p o) y = (layer, n, ap (stopped layer n) p)

  ends-own : {e : Ending} → PartEnds k 0 full e → (layer : Layer) (n at : ℕ) → e ≡ stopped layer n at → ¬ (T (is_cut layer n))
      → full.ending ≡ stopped layer n at
  ends-own (cleanly c) layer n at q y = let z : ◌≡◌ {A = ℕ} 0 1 = cc in absurd (omega arith)
  ends-own (stopping {layer = layer'} {n = n'} b x p (inl t)) layer n at q y = let e : is_cut layer' n' ≡ is_cut layer n = cc in absurd (y (rw e at t))
  ends-own (stopping b x p (inr e)) layer n at q y = e ∙ q

rule_of : {F : Type 0} (k : ℕ) (full part : Reading F) → CutFrom k 0 full part → CutRule k full part
rule_of k full part c =
    record {
      items = c.items;
      cleanly = (clean_ends c.ending, ends_clean c.ending);
      stops = ends-stops c.ending;
      own = ends-own c.ending;
    }

-- ---- the walk

module _ {F : Type 0} {handshake_at : List ℕ → Opened F} {message_at : List ℕ → ℕ → Opened F} {least : ℕ}
    (laws : ReaderLaws F handshake_at message_at least) where
  abbrev Open : List ℕ → ℕ → Opened F
  Open s at = open_at F handshake_at message_at s at

  abbrev Walk : List ℕ → ℕ → Reading F
  Walk s at = walk F handshake_at message_at s at

  -- items from a place on end past k, if the first does
  none_by : {s : List ℕ} {at : ℕ} (k : ℕ) → Walks laws s at → ((f : F) (end : ℕ) → Open s at ≡ opened f end → k < end)
      → end_by k (Walk s at).items ≡ []
  unfolding end_by
  none_by {s} {at} k (over z e) h = rw (walk-over laws s at z e)
  none_by {s} {at} k (stops layer n b q) h = rw (walk-stops laws s at layer n b q)
  none_by {s} {at} k (goes f end b q m l w) h =
      let g : k < end = h f end q in
      rw (walk-goes laws s at f end (omega arith) b q)
      (end_by_no k (record { start = at; end = end; holds = f }) (Walk s end).items g
      ∙ none_by k w (λ f' end' q'. omega (arith, laws.moves s end f' end' l q')))

  past_end : (k : ℕ) (o : Opened F) → Past k o → (f : F) (end : ℕ) → o ≡ opened f end → k < end
  past_end k (opened g e) h f end q = let y : e ≡ end = cc in omega arith
  past_end k (refused_in layer n) h f end q = let z : ◌≡◌ {A = ℕ} 0 1 = cc in absurd (omega arith)

  -- the part stops where an item may stand
  stop-from : (s : List ℕ) (k at : ℕ) (layer : Layer) (n : ℕ) → at ≤ k → k ≤ length s → (0 < at → at < k)
      → (o p : Opened F) → Open s at ≡ o → OpenedCut k o p → p ≡ refused_in layer n
      → CutFrom k at (Walk s at) (record { items = []; ending = stopped layer n at })
  stop-from s k at layer n h g b o p e (kept l) q = let z : ◌≡◌ {A = ℕ} 0 1 = cc in absurd (omega arith)
  stop-from s k at layer n h g b o p e own q =
      let r = walk-stops laws s at layer n (λ z. let y = b z in omega arith) (e ∙ q) in
      let none = none_by k (walks laws s at (omega arith)) (λ f end q'. let z : ◌≡◌ {A = ℕ} 0 1 = cc in absurd (omega arith)) in
      from-stop k at (Walk s at) none layer n b (inr (rw r))
  stop-from s k at layer n h g b o p e (short {layer = layer'} {n = n'} x t) q =
      let y : is_cut layer' n' ≡ is_cut layer n = cc in
      let none = none_by k (walks laws s at (omega arith)) (λ f end q'. past_end k o x f end (sym e ∙ q')) in
      from-stop k at (Walk s at) none layer n b (inl (rw y at t))

  cut-from : (s : List ℕ) (k at : ℕ) → at ≤ k → k ≤ length s → Walks laws (take k s) at → CutFrom k at (Walk s at) (Walk (take k s) at)
  cut-from s k at h g (over z e) =
      let n : length (take k s) ≡ k = length-take-le k s g in
      let none = none_by k (walks laws s at (omega arith)) (λ f end q. omega (arith, laws.some, laws.moves s at f end (omega arith) q)) in
      rw (walk-over laws (take k s) at z e) (from_clean k at (Walk s at) none z (omega arith))
  cut-from s k at h g (stops layer n b q) =
      let r : length (take k s) ≡ k = length-take-le k s g in
      rw (walk-stops laws (take k s) at layer n b q)
      (stop-from s k at layer n h g (λ z. let y = b z in omega arith) (Open s at) (Open (take k s) at) refl (laws.cut s at k h g) q)
  cut-from s k at h g (goes f end b q m l w) =
      let r : length (take k s) ≡ k = length-take-le k s g in
      let c = opened-kept (laws.cut s at k h g) f end q in
      let part = walk-goes laws (take k s) at f end (omega arith) b q in
      let full = walk-goes laws s at f end (omega arith) (λ z. let y = b z in omega arith) c.0 in
      rw (part, full)
      (from-item k at f end (Walk s end) (Walk (take k s) end) (omega (arith, laws.some)) (omega arith) (cut-from s k end (omega arith) g w))

  -- the cut rule, for all bytes and every cut up to their length
  pub cut_rule : (s : List ℕ) (k : ℕ) → k ≤ length s → CutRule k (reading F handshake_at message_at s) (reading F handshake_at message_at (take k s))
  unfolding reading
  cut_rule s k h =
      let n : length (take k s) ≡ k = length-take-le k s h in
      rule_of k (Walk s 0) (Walk (take k s) 0) (cut-from s k 0 (omega arith) h (walks laws (take k s) 0 (omega arith)))
