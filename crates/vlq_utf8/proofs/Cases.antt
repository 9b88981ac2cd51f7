-- Sequences at the edges of the table, and the examples of RFC 3629, section 7, computed. The cases of document 01 stand
-- in the crate `edges`.
use Rattle.std.specs.Prelude.{ℕ, Bool, true, false, List, [], ◌∷◌, map, ◌≡◌, refl}
use Rattle.vlq_utf8.specs.Utf8.{lead_rows, lead_in, lead_of, utf8_from, utf8}
use Rattle.vlq_utf8.specs.Scalars.{encode, encode_all}

pub record Case : Type 0 where
  pub bytes : List ℕ
  pub answer : Bool

-- the first sequence of two, the longest overlong one; the last before the surrogates, the last of them
unfoldable pub cases : List Case
cases =
    record { bytes = 0xc2 ∷ 0x80 ∷ []; answer = true }
    ∷ record { bytes = 0xc1 ∷ 0xbf ∷ []; answer = false }
    ∷ record { bytes = 0xed ∷ 0x9f ∷ 0xbf ∷ []; answer = true }
    ∷ record { bytes = 0xed ∷ 0xbf ∷ 0xbf ∷ []; answer = false }
    ∷ []

pub cases_hold : map (λ (c : Case). utf8 c.bytes) cases ≡ map (λ (c : Case). c.answer) cases
unfolding cases utf8 utf8_from lead_of lead_in lead_rows
cases_hold = refl

pub record Example : Type 0 where
  pub characters : List ℕ
  pub octets : List ℕ

-- RFC 3629, section 7
unfoldable pub examples : List Example
examples =
    record { characters = 0x41 ∷ 0x2262 ∷ 0x391 ∷ 0x2e ∷ []; octets = 0x41 ∷ 0xe2 ∷ 0x89 ∷ 0xa2 ∷ 0xce ∷ 0x91 ∷ 0x2e ∷ [] }
    ∷ record { characters = 0xd55c ∷ 0xad6d ∷ 0xc5b4 ∷ []; octets = 0xed ∷ 0x95 ∷ 0x9c ∷ 0xea ∷ 0xb5 ∷ 0xad ∷ 0xec ∷ 0x96 ∷ 0xb4 ∷ [] }
    ∷ record { characters = 0x65e5 ∷ 0x672c ∷ 0x8a9e ∷ []; octets = 0xe6 ∷ 0x97 ∷ 0xa5 ∷ 0xe6 ∷ 0x9c ∷ 0xac ∷ 0xe8 ∷ 0xaa ∷ 0x9e ∷ [] }
    ∷ record { characters = 0xfeff ∷ 0x233b4 ∷ []; octets = 0xef ∷ 0xbb ∷ 0xbf ∷ 0xf0 ∷ 0xa3 ∷ 0x8e ∷ 0xb4 ∷ [] }
    ∷ []

pub examples_hold : map (λ (e : Example). encode_all e.characters) examples ≡ map (λ (e : Example). e.octets) examples
unfolding examples encode_all encode
examples_hold = refl

pub examples-accepted : map (λ (e : Example). utf8 e.octets) examples ≡ map (λ (e : Example). true) examples
unfolding examples utf8 utf8_from lead_of lead_in lead_rows
examples-accepted = refl
