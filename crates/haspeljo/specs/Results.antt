-- What an exported function leaves: 0, with the values in the lent array; or the refusal number, with the array as it was.
use Rattle.std.specs.Prelude.{ℕ, Bool, true, false, List, [], ◌∷◌, ◌≡◌}
use Rattle.wire.specs.Output.{output_after, Written, To, Refused}
use Rattle.wire.specs.Reader.{Answer, got, refused}
use Rattle.wire.specs.declared.Part.{Part}

-- ---- readers

abbrev pub number_of : {A : Type 0} → Answer A → ℕ
number_of (got a next) = 0
number_of (refused m) = m

-- the array after an answer, `values` being what is given of a value and the next place
abbrev pub array_after : {A : Type 0} → (A → ℕ → List ℕ) → Answer A → List ℕ → List ℕ
array_after values (got a next) array = values a next
array_after values (refused m) array = array

-- of an answer a reader returned n, with the array `before` left as `after`
pub record ReaderLeaves {A : Type 0} (values : A → ℕ → List ℕ) (answer : Answer A) (n : ℕ) (before after : List ℕ) : Type 0 where
  pub number : n ≡ number_of answer
  pub array : after ≡ array_after values answer before

abbrev pub value_next : ℕ → ℕ → List ℕ
value_next v next = v ∷ next ∷ []

abbrev pub part_next : Part → ℕ → List ℕ
part_next p next = p.start ∷ p.len ∷ next ∷ []

-- ---- writers

abbrev pub written_number : Written → ℕ
written_number (To end) = 0
written_number (Refused m) = m

abbrev pub end_after : Written → List ℕ → List ℕ
end_after (To end) array = end ∷ []
end_after (Refused m) array = array

-- a writer with what it is given: what it says of an output and a place, and the bytes that it writes
pub record Writer : Type 0 where
  pub says : List ℕ → ℕ → Written
  pub bytes : List ℕ

-- a writer called for the place at returned n, with the array `before` left as `after` and the output out as last
pub record WriterLeaves (w : Writer) (at n : ℕ) (before after out last : List ℕ) : Type 0 where
  pub number : n ≡ written_number (w.says out at)
  pub array : after ≡ end_after (w.says out at) before
  pub output : last ≡ output_after (w.says out at) out at w.bytes

-- ---- numbers for what has no type in C

abbrev pub bit : Bool → ℕ
bit true = 1
bit false = 0
