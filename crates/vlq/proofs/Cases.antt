-- What is read and written of VLQs and short strings, computed from the definitions, beside the cases of document 01,
-- which stand in the crate `edges`. One lemma covers both tables.
use Rattle.std.specs.Prelude.{ℕ, ◌-◌, ◌^◌, List, [], ◌∷◌, ◌≡◌, refl}
use Rattle.wire.specs.Reader.{Answer, got, refused, Reader, Segment}
use Rattle.vlq_utf8.specs.Utf8.{lead_rows, lead_in, lead_of, utf8_from, utf8}
use Rattle.vlq.specs.Vlq.{groups, vlq, vlq_length, vlq_in, vlq_bytes}
use Rattle.vlq.specs.ShortString.{string, short_string}

-- what a reader answers at a place of some bytes
pub record ReadCase : Type 1 where
  pub Value : Type 0
  pub bytes : List ℕ
  pub at : ℕ
  pub reader : Reader Value
  pub answer : Answer Value

abbrev pub read_vlq : List ℕ → ℕ → Answer ℕ → ReadCase
read_vlq s at r = record { Value = ℕ; bytes = s; at = at; reader = vlq; answer = r }

abbrev pub read_length : List ℕ → ℕ → Answer ℕ → ReadCase
read_length s at r = record { Value = ℕ; bytes = s; at = at; reader = vlq_length; answer = r }

abbrev pub read_string : List ℕ → ℕ → Answer Segment → ReadCase
read_string s at r = record { Value = Segment; bytes = s; at = at; reader = short_string; answer = r }

-- nine bytes, and more
abbrev pub nine : ℕ → List ℕ → List ℕ
nine b l = b ∷ b ∷ b ∷ b ∷ b ∷ b ∷ b ∷ b ∷ b ∷ l

unfoldable pub read_cases : List ReadCase
read_cases =
    read_vlq (0x00 ∷ []) 0 (got 0 1)
    ∷ read_vlq (0xff ∷ 0x7f ∷ []) 0 (got 16383 2)
    ∷ read_vlq (0x80 ∷ 0x80 ∷ 0x01 ∷ []) 0 (got 16384 3)
    -- the limit and one more, in five bytes
    ∷ read_length (0x80 ∷ 0xa4 ∷ 0xe8 ∷ 0x87 ∷ 0x00 ∷ []) 0 (got 16388608 5)
    ∷ read_length (0x81 ∷ 0xa4 ∷ 0xe8 ∷ 0x87 ∷ 0x00 ∷ []) 0 (refused 3)
    -- ten bytes, of which the tenth keeps its lowest bit, and eleven
    ∷ read_vlq (nine 0x80 (0x01 ∷ [])) 0 (got (2 ^ 63) 10)
    ∷ read_vlq (nine 0x80 (0x02 ∷ [])) 0 (got 0 10)
    ∷ read_vlq (nine 0x80 (0x80 ∷ 0x00 ∷ [])) 0 (refused 2)
    ∷ read_string (0x03 ∷ 0xe2 ∷ 0x82 ∷ 0xac ∷ []) 0 (got (record { start = 1; bytes = 0xe2 ∷ 0x82 ∷ 0xac ∷ [] }) 4)
    ∷ read_string (0x02 ∷ 0xc1 ∷ 0xbf ∷ []) 0 (refused 4)
    -- the place first; a missing byte before 2, 3 and 4
    ∷ read_vlq (0x7f ∷ []) 2 (refused 12)
    ∷ read_length [] 1 (refused 12)
    ∷ read_string (0x00 ∷ []) 2 (refused 12)
    ∷ read_vlq (0x7f ∷ []) 1 (refused 1)
    ∷ read_vlq (nine 0xff []) 0 (refused 1)
    ∷ read_length (0x81 ∷ 0xa4 ∷ 0xe8 ∷ []) 0 (refused 1)
    ∷ read_string [] 0 (refused 1)
    ∷ read_string (0x03 ∷ 0xc0 ∷ 0x80 ∷ []) 0 (refused 1)
    ∷ []

-- the bytes that are written for a value
pub record WriteCase : Type 0 where
  pub value : ℕ
  pub bytes : List ℕ

unfoldable pub write_cases : List WriteCase
write_cases =
    record { value = 0; bytes = 0x00 ∷ [] }
    ∷ record { value = 129; bytes = 0x81 ∷ 0x01 ∷ [] }
    ∷ record { value = 16383; bytes = 0xff ∷ 0x7f ∷ [] }
    ∷ record { value = 16384; bytes = 0x80 ∷ 0x80 ∷ 0x01 ∷ [] }
    ∷ record { value = 2 ^ 63; bytes = nine 0x80 (0x01 ∷ []) }
    ∷ record { value = 2 ^ 64 - 1; bytes = nine 0xff (0x01 ∷ []) }
    ∷ []

unfoldable pub EachRead : List ReadCase → Type 0
EachRead [] = Unit {0}
EachRead (c ∷ cs) = (c.reader c.bytes c.at ≡ c.answer) × EachRead cs

unfoldable pub EachWrite : List WriteCase → Type 0
EachWrite [] = Unit {0}
EachWrite (c ∷ cs) = (vlq_bytes c.value ≡ c.bytes) × EachWrite cs

pub cases : EachRead read_cases × EachWrite write_cases
unfolding EachRead EachWrite read_cases write_cases groups vlq vlq_length vlq_in vlq_bytes string short_string lead_rows lead_in lead_of utf8_from utf8
cases = (
  (refl, (refl, (refl, (refl, (refl, (refl, (refl, (refl, (refl, (refl, (refl, (refl, (refl, (refl, (refl, (refl, (refl, (refl, tt)))))))))))))))))),
  (refl, (refl, (refl, (refl, (refl, (refl, tt)))))),
)
