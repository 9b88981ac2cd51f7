-- How bytes are read. A reader takes the bytes and a place; it gives a value and the next place, or a refusal number of document 01, "Questions".
-- Each format is put together from the readers below, field by field in byte order. Only `field` looks at the bytes and their length.
use Rattle.std.specs.Prelude.{ℕ, zero, suc, ◌+◌, Bool, cond, List, [], ◌∷◌, ◌++◌, leb, length, get_or, take, drop}
use Rattle.wire.specs.declared.Part.{Part}

-- what a reader says: a value and the next place, or a refusal number
pub data Answer (A : Type 0) : Type 0 where
  got : A → ℕ → Answer A
  refused : ℕ → Answer A

abbrev pub Reader : Type 0 → Type 0
Reader A = List ℕ → ℕ → Answer A

-- what follows an answer: a value goes on to f, a refusal stays
abbrev pub bind : {A B : Type 0} → Answer A → (A → ℕ → Answer B) → Answer B
bind (got a next) f = f a next
bind (refused m) f = refused m

-- one reader, and then another from where it ended
abbrev pub and_then : {A B : Type 0} → Reader A → (A → Reader B) → Reader B
and_then p f s at = bind (p s at) (λ a next. f a s next)

-- no bytes: the value a
abbrev pub pure : {A : Type 0} → A → Reader A
pure a s at = got a at

-- no bytes: the place itself
abbrev pub place : Reader ℕ
place s at = got at at

-- no bytes: a refusal
abbrev pub refuse : {A : Type 0} → ℕ → Reader A
refuse m s at = refused m

-- no bytes: the value a if b holds, otherwise the refusal m
abbrev pub guard : {A : Type 0} → Bool → ℕ → A → Reader A
guard b m a s at = cond b (got a at) (refused m)

-- a field of n bytes, whose value v reads off the bytes and the place
-- Is the place at most the length? 12. Are the field's bytes there? m
abbrev pub field : {A : Type 0} → ℕ → ℕ → (List ℕ → ℕ → A) → Reader A
field m n v s at = cond (leb at (length s)) (cond (leb (at + n) (length s)) (got (v s at) (at + n)) (refused m)) (refused 12)

-- a byte
abbrev pub byte : Reader ℕ
byte = field 1 1 (λ s at. get_or s at 0)

-- bytes, and the place where they start
pub record Segment : Type 0 where
  pub start : ℕ
  pub bytes : List ℕ

-- n bytes
abbrev pub part : ℕ → Reader Segment
part n = field 1 n (λ s at. record { start = at; bytes = take n (drop at s) })

-- n turns of p, each from the last one's value and place
unfoldable pub fold : {A : Type 0} → ℕ → (A → Reader A) → A → Reader A
fold zero p a = pure a
fold (suc n) p a = and_then (p a) (λ b. fold n p b)

-- n items one after the other; p may look at those before it
unfoldable pub list_of : {A : Type 0} → ℕ → (List A → Reader A) → Reader (List A)
list_of n p = fold n (λ before. and_then (p before) (λ a. pure (before ++ (a ∷ [])))) []

-- an answer whose value is seen through f
unfoldable pub map_answer : {A B : Type 0} → (A → B) → Answer A → Answer B
map_answer f r = bind r (λ a next. got (f a) next)

-- what the code gives of a segment: its place and its length
abbrev pub part_of : Segment → Part
part_of g = record { start = g.start; len = length g.bytes }
