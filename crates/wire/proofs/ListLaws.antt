-- Reading back lists: where each of the values reads back, so does the list of them, one after the other. What is proved of one value may depend on
-- the readings before it; where it does not, the law over `Each` is enough.
use Rattle.std.specs.Prelude.{ℕ, ◌≡◌, length}
use mathlib.Core.List.{List, [], ◌∷◌, ◌++◌, map, flat_map, append-nil, append_assoc, map-append}
use Rattle.std.proofs.Math.Path.{refl, sym}
use Rattle.std.proofs.Common.{◌∙◌}
use Rattle.wire.specs.Bytes.{Each}
use Rattle.wire.proofs.BytesLaws.{each_between}
use Rattle.wire.specs.Reader.{Reader, pure, and_then, fold, list_of}
use Rattle.wire.specs.ReadsBack.{ReadsBack}
use Rattle.wire.proofs.ReadsBackLaws.{reads-pure, reads_then, reads-last}

module _ {A X : Type 0} {p : List A → Reader A} {see : A → X} {bytes : X → List ℕ} (all : List X)
    (one : (done : List X) (x : X) (rest : List X) → all ≡ done ++ (x ∷ rest) → (before : List A) → map see before ≡ done → ReadsBack (p before) see (bytes x) x)
  where
    turn : List A → Reader (List A)
    turn before = and_then (p before) (λ a. pure (before ++ (a ∷ [])))

    reads-turn : (done : List X) (x : X) (rest : List X) → all ≡ done ++ (x ∷ rest) → (before : List A) → map see before ≡ done
        → ReadsBack (turn before) (map see) (bytes x) (done ++ (x ∷ []))
    unfolding turn
    reads-turn done x rest e before h =
        reads-last (one done x rest e before h) (λ a g. reads-pure (before ++ (a ∷ [])) (map-append see before (a ∷ []) ∙ rw (h, g)))

    reads-turns : (done rest : List X) → all ≡ done ++ rest → (before : List A) → map see before ≡ done
        → ReadsBack (fold (length rest) turn before) (map see) (flat_map bytes rest) all
    unfolding fold flat_map
    reads-turns done [] e before h = reads-pure before (h ∙ sym (append-nil done) ∙ sym e)
    reads-turns done (x ∷ rest) e before h =
        reads_then (reads-turn done x rest e before h)
        (λ b g. reads-turns (done ++ (x ∷ [])) rest (e ∙ sym (append_assoc done (x ∷ []) rest)) b g)

    -- each x of the values reads back after any readings of the values before it
    pub reads-list_of : ReadsBack (list_of (length all) p) (map see) (flat_map bytes all) all
    unfolding list_of turn
    reads-list_of = reads-turns [] all refl [] refl

-- each of the values reads back by itself
pub reads-each : {A X : Type 0} {p : Reader A} {see : A → X} {bytes : X → List ℕ} {P : X → Type 0} → ((x : X) → P x → ReadsBack p see (bytes x) x)
    → (all : List X) → Each P all → ReadsBack (list_of (length all) (λ before. p)) (map see) (flat_map bytes all) all
reads-each one all h = reads-list_of all (λ done x rest e before g. one x (each_between done x rest (rw e at h)))
