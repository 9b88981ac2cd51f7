-- The first feature with an id among the features at a place, computed from the definitions: behind others, of two with one id, where none has it, and
-- where a feature is refused. And the verdicts' numbers.
use Rattle.std.specs.Prelude.{ℕ, List, [], ◌∷◌, map, ◌≡◌, refl, Option, None, Some}
use Rattle.wire.specs.Reader.{fold}
use Rattle.vlq.specs.Vlq.{groups, vlq, vlq_length}
use Rattle.handshake.specs.Entry.{feature}
use Rattle.handshake.specs.Verdict.{first_feature}
use Rattle.handshake_read.specs.declared.Feature.{Feature}
use Rattle.handshake_verdict.specs.Peer.{features_from}
use Rattle.handshake_verdict.specs.Answers.{first_in, verdict_number}
use Rattle.handshake_verdict.specs.declared.Verdict.TheVariants.{Accepted, OldVersion, OtherMagic}

-- what is computed, and what it is by hand
pub record Case : Type 0 where
  pub computed : Option Feature
  pub is : Option Feature

abbrev case : Option Feature → Option Feature → Case
case c i = record { computed = c; is = i }

-- two bytes, then features 3, 16, 3 and 19, with bodies of one, two, none and one byte
abbrev bytes : List ℕ
bytes = 91 ∷ 92 ∷ 3 ∷ 1 ∷ 41 ∷ 16 ∷ 2 ∷ 42 ∷ 43 ∷ 3 ∷ 0 ∷ 19 ∷ 1 ∷ 44 ∷ []

abbrev found : ℕ → ℕ → ℕ → Option Feature
found id start len = Some (record { id = id; body = record { start = start; len = len } })

unfoldable pub feature_cases : List Case
feature_cases =
    case (first_in 16 (features_from 4 bytes 2)) (found 16 7 2)
    ∷ case (first_in 3 (features_from 4 bytes 2)) (found 3 4 1)
    ∷ case (first_in 3 (features_from 3 bytes 5)) (found 3 11 0)
    ∷ case (first_in 19 (features_from 4 bytes 2)) (found 19 13 1)
    ∷ case (first_in 4 (features_from 4 bytes 2)) None
    -- fewer features than the one looked for is behind; more than there are
    ∷ case (first_in 19 (features_from 3 bytes 2)) None
    ∷ case (first_in 19 (features_from 255 bytes 2)) (found 19 13 1)
    ∷ case (first_in 4 (features_from 255 bytes 2)) None
    -- the second feature is not all there: the first is found, none behind it is
    ∷ case (first_in 3 (features_from 3 (3 ∷ 0 ∷ 16 ∷ 9 ∷ 41 ∷ []) 0)) (found 3 2 0)
    ∷ case (first_in 16 (features_from 3 (3 ∷ 0 ∷ 16 ∷ 9 ∷ 41 ∷ []) 0)) None
    -- a place past the bytes
    ∷ case (first_in 3 (features_from 1 bytes 15)) None
    ∷ []

pub feature_cases_lem : map (λ (c : Case). c.computed) feature_cases ≡ map (λ (c : Case). c.is) feature_cases
unfolding feature_cases features_from first_feature feature vlq_length vlq groups fold
feature_cases_lem = refl

-- the verdicts' numbers
pub verdict_numbers : map verdict_number (Accepted ∷ OldVersion ∷ OtherMagic ∷ []) ≡ 0 ∷ 1 ∷ 2 ∷ []
verdict_numbers = refl
