-- UTF-8 by RFC 3629, section 3: which numbers are characters, and the octets of one and of a list of them.
-- No lead byte's row is looked at here.
-- Only for laws, proofs and private functions: no public contract and no theorem cites what follows.
use Rattle.std.specs.Prelude.{ℕ, ◌+◌, ◌/◌, ◌%◌, ◌^◌, ◌≤◌, cond, List, [], ◌∷◌, ◌++◌, ◌≡◌, leb}

-- U+0000 to U+10FFFF, without D800 to DFFF, the numbers of the surrogates
pub record Scalar (c : ℕ) : Type 0 where
  pub highest : c ≤ 0x10ffff
  pub proper : ¬ ((0xd800 ≤ c) × (c ≤ 0xdfff))

-- 10xxxxxx, with the lowest six bits of x
abbrev pub follower : ℕ → ℕ
follower x = 0b10000000 + x % 2 ^ 6

-- the octets of the character number c: the table of section 3, whose x are the bits of c
unfoldable pub encode : ℕ → List ℕ
encode c =
    cond (leb c 0x7f) (c ∷ [])
    (cond (leb c 0x7ff) ((0b11000000 + c / 2 ^ 6) ∷ follower c ∷ [])
    (cond (leb c 0xffff) ((0b11100000 + c / 2 ^ 12) ∷ follower (c / 2 ^ 6) ∷ follower c ∷ [])
    ((0b11110000 + c / 2 ^ 18) ∷ follower (c / 2 ^ 12) ∷ follower (c / 2 ^ 6) ∷ follower c ∷ [])))

unfoldable pub encode_all : List ℕ → List ℕ
encode_all [] = []
encode_all (c ∷ cs) = encode c ++ encode_all cs

abbrev pub Scalars : List ℕ → Type 0
Scalars [] = Unit {0}
Scalars (c ∷ cs) = Scalar c × Scalars cs

-- bs is the encoding of cs, which are scalar values
pub record EncodingOf (cs : List ℕ) (bs : List ℕ) : Type 0 where
  pub scalars : Scalars cs
  pub bytes : encode_all cs ≡ bs
