-- What the reading of a session cut at a byte is to the reading of the whole session.
use Rattle.std.specs.Prelude.{ℕ, cond, List, [], ◌∷◌, ◌↔◌, ◌≡◌, T, leb}
use Rattle.walk.specs.Walk.{Layer, Item, clean, stopped, Reading, is_cut}

-- the items that end by the cut at k, in order
unfoldable pub end_by : {F : Type 0} → ℕ → List (Item F) → List (Item F)
end_by k [] = []
end_by k (i ∷ is) = cond (leb i.end k) (i ∷ end_by k is) (end_by k is)

-- where the last item ends, or at if there is none
unfoldable pub last_end : {F : Type 0} → ℕ → List (Item F) → ℕ
last_end at [] = at
last_end at (i ∷ is) = last_end i.end is

-- k is the end of one of the items
pub data EndsAt {F : Type 0} (k : ℕ) : List (Item F) → Type 0 where
  here : {i : Item F} {is : List (Item F)} → i.end ≡ k → EndsAt k (i ∷ is)
  there : {i : Item F} {is : List (Item F)} → EndsAt k is → EndsAt k (i ∷ is)

-- the part before the cut at k, beside the full reading
pub record CutRule {F : Type 0} (k : ℕ) (full part : Reading F) : Type 0 where
  -- exactly those items of the full reading that end by the cut, in order, with the same fields and verdicts
  pub items : part.items ≡ end_by k full.items
  -- it ends cleanly exactly when the cut is an item's end
  pub cleanly : (part.ending ≡ clean) ↔ EndsAt k full.items
  -- otherwise it stops where the last of those items ends, or at 0 if there are none
  pub stops : ¬ (EndsAt k full.items) → (layer : Layer) × (n : ℕ) × (part.ending ≡ stopped layer n (last_end 0 (end_by k full.items)))
  -- a stop that doesn't count as a cut is the full reading's own, alike in layer, number and place
  pub own : (layer : Layer) (n at : ℕ) → part.ending ≡ stopped layer n at → ¬ (T (is_cut layer n)) → full.ending ≡ stopped layer n at
