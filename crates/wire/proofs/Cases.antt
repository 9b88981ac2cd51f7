-- What a field answers, and what a writer says and leaves, at small numbers, computed from the definitions. One lemma covers both tables.
use Rattle.std.specs.Prelude.{ℕ, true, false, List, [], ◌∷◌, ◌≡◌, refl, get_or}
use Rattle.wire.specs.Output.{Written, To, Refused, put, Question, ask, asked, written, output_after}
use Rattle.wire.specs.Reader.{Answer, got, refused, field}

-- a field of n bytes of 5 6 7 at a place, whose value is its first byte; 8 if bytes are missing
pub record FieldCase : Type 0 where
  pub n : ℕ
  pub at : ℕ
  pub answer : Answer ℕ

unfoldable pub field_cases : List FieldCase
field_cases =
    record { n = 2; at = 1; answer = got 6 3 }
    ∷ record { n = 2; at = 2; answer = refused 8 }
    ∷ record { n = 0; at = 3; answer = got 0 3 }
    ∷ record { n = 0; at = 4; answer = refused 12 }
    ∷ record { n = 1; at = 4; answer = refused 12 }
    ∷ []

-- bytes written to 7 7 7 7 at a place
pub record WriteCase : Type 0 where
  pub before : List Question
  pub after : List Question
  pub at : ℕ
  pub bytes : List ℕ
  pub says : Written
  pub last : List ℕ

abbrev pub sevens : List ℕ
sevens = 7 ∷ 7 ∷ 7 ∷ 7 ∷ []

unfoldable pub write_cases : List WriteCase
write_cases =
    record { before = ask 16 true ∷ []; after = ask 13 true ∷ []; at = 1; bytes = 1 ∷ 2 ∷ []; says = To 3; last = 7 ∷ 1 ∷ 2 ∷ 7 ∷ [] }
    ∷ record { before = []; after = []; at = 2; bytes = 1 ∷ 2 ∷ []; says = To 4; last = 7 ∷ 7 ∷ 1 ∷ 2 ∷ [] }
    ∷ record { before = []; after = []; at = 4; bytes = []; says = To 4; last = sevens }
    -- the first question answered "no" gives the number, and the output stays
    ∷ record { before = ask 16 false ∷ []; after = ask 13 false ∷ []; at = 5; bytes = 1 ∷ []; says = Refused 16; last = sevens }
    ∷ record { before = ask 16 true ∷ []; after = ask 13 false ∷ []; at = 5; bytes = 1 ∷ []; says = Refused 12; last = sevens }
    ∷ record { before = []; after = ask 13 false ∷ ask 4 false ∷ []; at = 3; bytes = 1 ∷ 2 ∷ []; says = Refused 13; last = sevens }
    ∷ record { before = []; after = ask 13 true ∷ ask 4 false ∷ []; at = 3; bytes = 1 ∷ 2 ∷ []; says = Refused 4; last = sevens }
    ∷ record { before = []; after = ask 13 true ∷ ask 4 true ∷ []; at = 3; bytes = 1 ∷ 2 ∷ []; says = Refused 14; last = sevens }
    ∷ []

unfoldable pub EachField : List FieldCase → Type 0
EachField [] = Unit {0}
EachField (c ∷ cs) = (field 8 c.n (λ s at. get_or s at 0) (5 ∷ 6 ∷ 7 ∷ []) c.at ≡ c.answer) × EachField cs

unfoldable pub EachWrite : List WriteCase → Type 0
EachWrite [] = Unit {0}
EachWrite (c ∷ cs) =
    (written c.before c.after sevens c.at c.bytes ≡ c.says)
    × (output_after c.says sevens c.at c.bytes ≡ c.last) × EachWrite cs

pub cases : EachField field_cases × EachWrite write_cases
unfolding EachField EachWrite field_cases write_cases put asked written output_after
cases = (
  (refl, (refl, (refl, (refl, (refl, tt))))),
  (refl, refl, (refl, refl, (refl, refl, (refl, refl, (refl, refl, (refl, refl, (refl, refl, (refl, refl, tt)))))))),
)
