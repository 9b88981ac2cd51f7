-- The write of a frame at the edges of its questions (document 01, "Questions", Writers): two neighbouring questions
-- answered "no" at once, and both sides of the limit of a body. Bodies as long as that are given by their length alone,
-- since counting them would take the prover too long.
use Rattle.std.specs.Prelude.{ℕ, List, [], ◌∷◌, ◌≡◌, refl, length, replicate}
use Rattle.wire.specs.Output.{asked, written, Written, To, Refused}
use Rattle.types.specs.declared.Network.TheVariants.{Mainnet}
use Rattle.frame.proofs.FrameLaws.{body_start, length-frame_bytes}
use Rattle.frame.specs.Writes.{frame_written}

-- a body, written under code 55 to an output from a place on
pub record Case : Type 0 where
  pub body : List ℕ
  pub out : List ℕ
  pub at : ℕ
  pub says : Written

abbrev case : List ℕ → List ℕ → ℕ → Written → Case
case body out at says = record { body = body; out = out; at = at; says = says }

unfoldable pub cases : List ℕ → List ℕ → List Case
cases most over =
    -- 12 before 7, 7 before 14
    case over [] 1 (Refused 12)
    ∷ case over [] 0 (Refused 7)
    ∷ case most [] 0 (Refused 14)
    -- 12 before 14; the room for the 9 bytes of a frame without a body
    ∷ case [] (replicate 9 7) 10 (Refused 12)
    ∷ case [] (replicate 9 7) 1 (Refused 14)
    ∷ case [] (replicate 9 7) 0 (To 9)
    ∷ []

unfoldable pub EachAgrees : List Case → Type 0
EachAgrees [] = Unit {0}
EachAgrees (c ∷ cs) = (frame_written Mainnet 55 c.body c.out c.at ≡ c.says) × EachAgrees cs

pub all-cases : (most over : List ℕ) → length most ≡ 16388608 → length over ≡ 16388609 → EachAgrees (cases most over)
unfolding cases EachAgrees frame_written written asked body_start
all-cases most over m o = (
  refl,
  (
    rw o,
    (
      rw (length-frame_bytes Mainnet 55 most, m),
      (
        refl,
        (
          rw length-frame_bytes,
          (
            rw length-frame_bytes,
            tt,
          ),
        ),
      ),
    ),
  ),
)
