-- The walk over any two readers that keep `ReaderLaws`: its equations, after which nothing looks at the count of `walk_in`, and what every reading has:
-- an ending, items that follow one another from place 0 on, and no more of them than the bytes have room for.
use Prim.Native.Nat.{ℕ, zero, suc, ◌+◌, ◌-◌, ◌*◌, ◌≤◌, ◌<◌}
use Rattle.std.proofs.Common.{arith, inl, inr, ⊎_elim, ◌∙◌}
use Rattle.std.specs.Prelude.{List, [], ◌∷◌, ◌⊎◌, T, take}
use Rattle.std.proofs.Math.Path.{◌≡◌, refl, sym, ap}
use Rattle.std.proofs.Math.ListN.{length}
use Rattle.std.proofs.Math.Seq.{take-length}
use borrow.Author.Tests.{le-leb, lt-leb, eq-eqb, ne_eqb}
use Rattle.wire.specs.Numbers.{lt-or_ge}
use Rattle.walk.specs.Walk.{Layer, Opened, opened, refused_in, Item, Step, item, stop, clean_end, outside, Ending, clean, stopped, Reading, is_cut, step_to, onward, step, walk_in, walk}
use Rattle.walk.specs.Theorems as Theorems
use Rattle.walk.specs.Theorems.{Chained, link}

-- ---- what the readers must keep

-- an item that ends past k, or a refusal
abbrev pub Past : {F : Type 0} → ℕ → Opened F → Type 0
Past k (opened f e) = k < e
Past k (refused_in layer n) = Unit {0}

-- `OpenedCut k o p`: p is what may be said over the first k bytes where o is said over all. An item that ends by k stays; a refusal stays; or p
-- is a refusal that counts as a cut, and the first k bytes don't hold o.
pub data OpenedCut {F : Type 0} (k : ℕ) : Opened F → Opened F → Type 0 where
  kept : {f : F} {e : ℕ} → e ≤ k → OpenedCut k (opened f e) (opened f e)
  own : {layer : Layer} {n : ℕ} → OpenedCut k (refused_in layer n) (refused_in layer n)
  short : {o : Opened F} {layer : Layer} {n : ℕ} → Past k o → T (is_cut layer n) → OpenedCut k o (refused_in layer n)

module _ (F : Type 0) (handshake_at : List ℕ → Opened F) (message_at : List ℕ → ℕ → Opened F) where
  -- the item at a place: a handshake at 0, a message at any other
  unfoldable pub open_at : List ℕ → ℕ → Opened F
  open_at s zero = handshake_at s
  open_at s (suc at) = message_at s (suc at)

-- an item takes `least` bytes at least, and at least one; and what a cut does to an item
pub record ReaderLaws (F : Type 0) (handshake_at : List ℕ → Opened F) (message_at : List ℕ → ℕ → Opened F) (least : ℕ) : Type 0 where
  pub some : 0 < least
  pub moves : (s : List ℕ) (at : ℕ) (f : F) (e : ℕ) → at ≤ length s → open_at F handshake_at message_at s at ≡ opened f e → at + least ≤ e
  pub cut : (s : List ℕ) (at k : ℕ) → at ≤ k → k ≤ length s
      → OpenedCut k (open_at F handshake_at message_at s at) (open_at F handshake_at message_at (take k s) at)

pub opened-kept : {F : Type 0} {k : ℕ} {o p : Opened F} → OpenedCut k o p → (f : F) (e : ℕ) → p ≡ opened f e → (o ≡ opened f e) × (e ≤ k)
opened-kept (kept {e = d} h) f e q = let y : d ≡ e = cc in (q, omega arith)
opened-kept own f e q = let z : ◌≡◌ {A = ℕ} 0 1 = cc in absurd (omega arith)
opened-kept (short b t) f e q = let z : ◌≡◌ {A = ℕ} 0 1 = cc in absurd (omega arith)

-- ---- the step at a place

module _ (F : Type 0) (handshake_at : List ℕ → Opened F) (message_at : List ℕ → ℕ → Opened F) where
  abbrev Steps : List ℕ → ℕ → Step F
  Steps s at = step F handshake_at message_at s at

  -- at the length, unless that is 0
  pub step_end : (s : List ℕ) (at : ℕ) → 0 < at → at ≡ length s → Steps s at ≡ clean_end
  unfolding step
  step_end s zero h e = absurd (omega arith)
  step_end s (suc at) h e = rw (eq-eqb (suc at) (length s) e)

  -- at 0, and at any place before the length
  pub step_open : (s : List ℕ) (at : ℕ) → (0 < at → at < length s) → Steps s at ≡ step_to at (open_at F handshake_at message_at s at)
  unfolding step open_at
  step_open s zero h = refl
  step_open s (suc at) h =
      let l : suc at < length s = h (omega arith) in
      rw (ne_eqb (suc at) (length s) (λ e. omega arith), le-leb (suc at) (length s) (omega arith))

  pub step-outside : (s : List ℕ) (at : ℕ) → length s < at → Steps s at ≡ outside
  unfolding step
  step-outside s zero h = absurd (omega arith)
  step-outside s (suc at) h = rw (ne_eqb (suc at) (length s) (λ e. omega arith), lt-leb (suc at) (length s) h)

-- a place up to the length is the clean end's, or an item may stand there
pub data Place (n at : ℕ) : Type 0 where
  ended : 0 < at → at ≡ n → Place n at
  before : (0 < at → at < n) → Place n at

pub place_of : (n at : ℕ) → at ≤ n → Place n at
place_of n zero h = before (λ z. absurd (omega arith))
place_of n (suc at) h = ⊎_elim (λ l. before (λ z. l)) (λ g. ended (omega arith) (omega arith)) (lt-or_ge (suc at) n)

-- ---- the walk

-- an item, and then a reading
abbrev pub item_then : {F : Type 0} → ℕ → F → ℕ → Reading F → Reading F
item_then at f end r = record { items = record { start = at; end = end; holds = f } ∷ r.items; ending = r.ending }

-- a clean end or a stop
abbrev Ends : Ending → Type 0
Ends e = (e ≡ clean) ⊎ ((layer : Layer) × (n : ℕ) × (at : ℕ) × (e ≡ stopped layer n at))

module _ {F : Type 0} {handshake_at : List ℕ → Opened F} {message_at : List ℕ → ℕ → Opened F} {least : ℕ}
    (laws : ReaderLaws F handshake_at message_at least) where
  abbrev Open : List ℕ → ℕ → Opened F
  Open s at = open_at F handshake_at message_at s at

  abbrev WalkIn : ℕ → List ℕ → ℕ → Reading F
  WalkIn c s at = walk_in F handshake_at message_at c s at

  abbrev Walk : List ℕ → ℕ → Reading F
  Walk s at = walk F handshake_at message_at s at

  -- what is opened ends within the bytes
  pub open_ends : (s : List ℕ) (at : ℕ) (f : F) (e : ℕ) → at ≤ length s → Open s at ≡ opened f e → e ≤ length s
  open_ends s at f e h q = (opened-kept (laws.cut s at (length s) h (omega arith)) f e (rw take-length q)).1

  -- how the steps go from a place to the end of the walk
  pub data Walks (s : List ℕ) : ℕ → Type 0 where
    over : {at : ℕ} → 0 < at → at ≡ length s → Walks s at
    stops : {at : ℕ} (layer : Layer) (n : ℕ) → (0 < at → at < length s) → Open s at ≡ refused_in layer n → Walks s at
    goes : {at : ℕ} (f : F) (end : ℕ) → (0 < at → at < length s) → Open s at ≡ opened f end → at + least ≤ end → end ≤ length s → Walks s end
        → Walks s at

  walks_in : (c : ℕ) (s : List ℕ) (at : ℕ) → at ≤ length s → length s < at + c → Walks s at
  walks_in zero s at h g = absurd (omega arith)
  walks_in (suc c) s at h g = go (λ end e l. walks_in c s end e l) (place_of (length s) at h)
    where
      from : ((end : ℕ) → end ≤ length s → length s < end + c → Walks s end) → (0 < at → at < length s)
          → (o : Opened F) → Open s at ≡ o → Walks s at
      from next b (refused_in layer n) q = stops layer n b q
      from next b (opened f end) q =
          let m : at + least ≤ end = laws.moves s at f end h q in
          let e : end ≤ length s = open_ends s at f end h q in
          goes f end b q m e (next end e (omega (arith, laws.some)))

      go : ((end : ℕ) → end ≤ length s → length s < end + c → Walks s end) → Place (length s) at → Walks s at
      go next (ended z e) = over z e
      go next (before b) = from next b (Open s at) refl

  pub walks : (s : List ℕ) (at : ℕ) → at ≤ length s → Walks s at
  walks s at h = walks_in (suc (length s - at)) s at h (omega arith)

  in_over : (c : ℕ) (s : List ℕ) (at : ℕ) → 0 < at → at ≡ length s → WalkIn (suc c) s at ≡ record { items = []; ending = clean }
  unfolding walk_in onward
  in_over c s at h e = rw (step_end F handshake_at message_at s at h e)

  in_stops : (c : ℕ) (s : List ℕ) (at : ℕ) (layer : Layer) (n : ℕ) → (0 < at → at < length s) → Open s at ≡ refused_in layer n
      → WalkIn (suc c) s at ≡ record { items = []; ending = stopped layer n at }
  unfolding walk_in onward step_to
  in_stops c s at layer n b q = rw (step_open F handshake_at message_at s at b, q)

  in_goes : (c : ℕ) (s : List ℕ) (at : ℕ) (f : F) (end : ℕ) → (0 < at → at < length s) → Open s at ≡ opened f end
      → WalkIn (suc c) s at ≡ item_then at f end (WalkIn c s end)
  unfolding walk_in onward step_to
  in_goes c s at f end b q = rw (step_open F handshake_at message_at s at b, q)

  -- any count that is large enough gives the same
  same_count : {s : List ℕ} {at : ℕ} → Walks s at → (c d : ℕ) → length s ≤ at + c → length s ≤ at + d → WalkIn (suc c) s at ≡ WalkIn (suc d) s at
  same_count {s} {at} (over z e) c d g h = in_over c s at z e ∙ sym (in_over d s at z e)
  same_count {s} {at} (stops layer n b q) c d g h = in_stops c s at layer n b q ∙ sym (in_stops d s at layer n b q)
  same_count {s} {at} (goes f end b q m l w) zero d g h = absurd (omega (arith, laws.some))
  same_count {s} {at} (goes f end b q m l w) (suc c) zero g h = absurd (omega (arith, laws.some))
  same_count {s} {at} (goes f end b q m l w) (suc c) (suc d) g h =
      in_goes (suc c) s at f end b q
      ∙ ap (item_then at f end) (same_count w c d (omega (arith, laws.some)) (omega (arith, laws.some)))
      ∙ sym (in_goes (suc d) s at f end b q)

  -- the three equations
  pub walk-over : (s : List ℕ) (at : ℕ) → 0 < at → at ≡ length s → Walk s at ≡ record { items = []; ending = clean }
  unfolding walk
  walk-over s at h e = in_over (length s - at) s at h e

  pub walk-stops : (s : List ℕ) (at : ℕ) (layer : Layer) (n : ℕ) → (0 < at → at < length s) → Open s at ≡ refused_in layer n
      → Walk s at ≡ record { items = []; ending = stopped layer n at }
  unfolding walk
  walk-stops s at layer n b q = in_stops (length s - at) s at layer n b q

  pub walk-goes : (s : List ℕ) (at : ℕ) (f : F) (end : ℕ) → at ≤ length s → (0 < at → at < length s) → Open s at ≡ opened f end
      → Walk s at ≡ item_then at f end (Walk s end)
  unfolding walk
  walk-goes s at f end h b q =
      let m : at + least ≤ end = laws.moves s at f end h q in
      let e : end ≤ length s = open_ends s at f end h q in
      let n : length s - at ≡ suc (length s - at - 1) = omega (arith, laws.some) in
      in_goes (length s - at) s at f end b q
      ∙ ap (λ (c : ℕ). item_then at f end (WalkIn c s end)) n
      ∙ ap (item_then at f end) (same_count (walks s end e) (length s - at - 1) (length s - end) (omega (arith, laws.some)) (omega arith))

  -- the walk from a place is the step's answer there and, after an item, the walk from its end
  pub walk_step : (s : List ℕ) (at : ℕ) → at ≤ length s → Walk s at ≡ onward (step F handshake_at message_at s at) (Walk s)
  unfolding onward step_to
  walk_step s at h = go (walks s at h)
    where
      go : Walks s at → Walk s at ≡ onward (step F handshake_at message_at s at) (Walk s)
      go (over z e) = rw (walk-over s at z e, step_end F handshake_at message_at s at z e)
      go (stops layer n b q) = rw (walk-stops s at layer n b q, step_open F handshake_at message_at s at b, q)
      go (goes f end b q m l w) = rw (walk-goes s at f end h b q, step_open F handshake_at message_at s at b, q)

  -- an item of a step is what stands at its place
  pub step-opened : (s : List ℕ) (at : ℕ) (i : Item F) → at ≤ length s → step F handshake_at message_at s at ≡ item i
      → (i.start ≡ at) × (Open s at ≡ opened i.holds i.end)
  unfolding step_to
  step-opened s at i h p = go (walks s at h)
    where
      go : Walks s at → (i.start ≡ at) × (Open s at ≡ opened i.holds i.end)
      go (over z e) = let x = sym (step_end F handshake_at message_at s at z e) ∙ p in let y : ◌≡◌ {A = ℕ} 0 1 = cc in absurd (omega arith)
      go (stops layer n b q) =
          let x : stop layer n at ≡ item i = ap (step_to at) (sym q) ∙ sym (step_open F handshake_at message_at s at b) ∙ p in
          let y : ◌≡◌ {A = ℕ} 0 1 = cc in absurd (omega arith)
      go (goes f end b q m l w) =
          let x : item (record { start = at; end = end; holds = f }) ≡ item i = ap (step_to at) (sym q) ∙ sym (step_open F handshake_at message_at s at b) ∙ p in
          let j : record { start = at; end = end; holds = f } ≡ i = cc in
          (sym (ap (λ (x : Item F). x.start) j), q ∙ ap (λ (x : Item F). opened x.holds x.end) j)

  -- it starts at its place, and ends after it, within the bytes
  pub step-item : (s : List ℕ) (at : ℕ) (i : Item F) → at ≤ length s → step F handshake_at message_at s at ≡ item i
      → (i.start ≡ at) × (at + least ≤ i.end) × (i.end ≤ length s)
  step-item s at i h p =
      let o = step-opened s at i h p in
      (o.0, laws.moves s at i.holds i.end h o.1, open_ends s at i.holds i.end h o.1)

  -- ---- every walk from a place

  pub walk_ends : {s : List ℕ} {at : ℕ} → Walks s at → Ends (Walk s at).ending
  walk_ends {s} {at} (over z e) = rw (walk-over s at z e) (inl refl)
  walk_ends {s} {at} (stops layer n b q) = rw (walk-stops s at layer n b q) (inr (layer, n, at, refl))
  walk_ends {s} {at} (goes f end b q m l w) = rw (walk-goes s at f end (omega arith) b q) (walk_ends w)

  pub walk_chained : {s : List ℕ} {at : ℕ} → Walks s at → Chained at (Walk s at).items
  walk_chained {s} {at} (over z e) = rw (walk-over s at z e) Theorems.end
  walk_chained {s} {at} (stops layer n b q) = rw (walk-stops s at layer n b q) Theorems.end
  walk_chained {s} {at} (goes f end b q m l w) = rw (walk-goes s at f end (omega arith) b q) (link refl (walk_chained w))

  pub walk-room : {s : List ℕ} {at : ℕ} → at ≤ length s → Walks s at → at + least * length (Walk s at).items ≤ length s
  walk-room {s} {at} h (over z e) = rw (walk-over s at z e) (omega arith)
  walk-room {s} {at} h (stops layer n b q) = rw (walk-stops s at layer n b q) (omega arith)
  walk-room {s} {at} h (goes f end b q m l w) = rw (walk-goes s at f end h b q) (omega (arith, walk-room l w))
