-- What the bodies of 22, 33 and 55 share, where their items start, and an item by index.
-- That the bodies are these parts is shown in `PartsLaws`.
use Rattle.std.specs.Prelude.{ℕ, cond, List, ltb, length}
use Rattle.wire.specs.Reader.{Answer, got, refused, Reader, bind, pure, and_then, Segment, part, list_of}
use Rattle.messages.specs.Message.{inventory_header}

-- where what was read ends; 0 if it was refused
abbrev pub end_of : {A : Type 0} → Answer A → ℕ
end_of (got a next) = next
end_of (refused m) = 0

-- ---- 22, 33 and 55

pub record Items (A : Type 0) : Type 0 where
  pub type : ℕ
  pub list : List A

-- type byte, count, items
unfoldable pub items : {A : Type 0} → (List A → Reader A) → Reader (Items A)
items p =
    and_then inventory_header (λ h.
    and_then (list_of h.count p) (λ l.
    pure (record { type = h.type; list = l })))

-- ---- where the first item of a body stands

-- after the type byte and the count
unfoldable pub items_start : List ℕ → ℕ
items_start s = end_of (inventory_header s 0)

-- ---- by index, once what it counts in has been read without refusal

-- of n items the one with an index: it is read after those before it
-- Is the index inside? 12
unfoldable pub item_by_index : {A : Type 0} → ℕ → ℕ → (List A → Reader A) → Reader A
item_by_index n index p s at = cond (ltb index n) (and_then (list_of index p) p s at) (refused 12)

-- of a body's items
unfoldable pub item_at : {A : Type 0} → ℕ → (List A → Reader A) → List ℕ → Answer A
item_at index p s = bind (items p s 0) (λ i next. item_by_index (length i.list) index p s (items_start s))

unfoldable pub id_at : ℕ → List ℕ → Answer Segment
id_at index s = item_at index (λ before. part 32) s
