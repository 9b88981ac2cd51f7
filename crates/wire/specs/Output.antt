-- How bytes are written into a lent output. A writer asks its questions in the order of document 01, "Questions": the first one answered "no"
-- gives the refusal number and the output stays as it was; otherwise the bytes are stored from the place on.
use Rattle.std.specs.Prelude.{Result, Ok, Err, ℕ, ◌+◌, Bool, cond, List, [], ◌∷◌, ◌++◌, ◌≡◌, leb, length, set}
use Rattle.wire.specs.Refusals.{number}
use Rattle.wire.specs.declared.Refusal.{Refusal}

-- what a writer says: the place after the bytes that it wrote, or the refusal number
pub data Written : Type 0 where
  To : ℕ → Written
  Refused : ℕ → Written

-- what is said of a value before it has a place: how many bytes it is written as, or the refusal number
pub data Size : Type 0 where
  Bytes : ℕ → Size
  Unsized : ℕ → Size

-- what the answer of a writer means, its refusals having these numbers
abbrev pub written_said_by : {M : Type 0} → (M → ℕ) → Result ℕ M → Written
written_said_by number_of (Ok end) = To end
written_said_by number_of (Err m) = Refused (number_of m)

-- the same of a writer whose refusals are those of document 01
abbrev pub written_said : Result ℕ Refusal → Written
written_said = written_said_by number

-- what an answer about the bytes of a value means, its refusals having these numbers
abbrev pub size_said_by : {M : Type 0} → (M → ℕ) → Result ℕ M → Size
size_said_by number_of (Ok n) = Bytes n
size_said_by number_of (Err m) = Unsized (number_of m)

-- the same where its refusals are those of document 01
abbrev pub size_said : Result ℕ Refusal → Size
size_said = size_said_by number

-- out with the bytes bs stored one after the other from the place at
unfoldable pub put : List ℕ → ℕ → List ℕ → List ℕ
put out at [] = out
put out at (b ∷ bs) = put (set out at b) (at + 1) bs

-- a question, with its number if "no"
pub record Question : Type 0 where
  pub number : ℕ
  pub holds : Bool

abbrev pub ask : ℕ → Bool → Question
ask n b = record { number = n; holds = b }

-- the number of the first question answered "no"; otherwise w
unfoldable pub asked : List Question → Written → Written
asked [] w = w
asked (q ∷ qs) w = cond q.holds (asked qs w) (Refused q.number)

-- the number of the first question answered "no"; otherwise n bytes
unfoldable pub sized : List Question → ℕ → Size
sized [] n = Bytes n
sized (q ∷ qs) n = cond q.holds (sized qs n) (Unsized q.number)

-- what a writer of the bytes bs says: `before` and `after` are its questions before and after that of the place, and room is asked last
unfoldable pub written : List Question → List Question → List ℕ → ℕ → List ℕ → Written
written before after out at bs =
    asked
    (before ++ (ask 12 (leb at (length out)) ∷ (after ++ (ask 14 (leb (at + length bs) (length out)) ∷ []))))
    (To (at + length bs))

-- the output after a writer of the bytes bs said w
unfoldable pub output_after : Written → List ℕ → ℕ → List ℕ → List ℕ
output_after (To end) out at bs = put out at bs
output_after (Refused m) out at bs = out

-- a write of the bytes bs to out from the place at ended at e and left last
pub record Wrote (out : List ℕ) (at : ℕ) (bs : List ℕ) (e : ℕ) (last : List ℕ) : Type 0 where
  pub end : e ≡ at + length bs
  pub bytes : last ≡ put out at bs
