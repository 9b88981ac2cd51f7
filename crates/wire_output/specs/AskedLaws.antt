-- The place and the room beside the other questions of a writer.
use Rattle.std.specs.Prelude.{ℕ, ◌+◌, Bool, ◌≡◌, eqb, leb}
use Rattle.std.proofs.Math.Bool.{true, false, cond}
use mathlib.Core.List.{List, [], ◌∷◌, ◌++◌}
use Rattle.std.proofs.Math.Path.{refl}
use Rattle.wire.specs.Output.{Question, ask, asked, sized, Written, To, Refused, Size, Unsized}
use Rattle.wire_output.specs.Asked.{written_for, output_asked}

-- no question has the number 16
unfoldable pub Without16 : List Question → Type 0
Without16 [] = Unit {0}
Without16 (q ∷ qs) = (eqb q.number 16 ≡ false) × Without16 qs

module _ (len at n : ℕ) where
  -- with the output's questions, those of a value are the writer's: where 16 is not asked
  pub output-rest : (qs : List Question) → Without16 qs → output_asked len at (sized qs n) ≡ written_for [] qs len at n
  unfolding Without16 output_asked sized asked
  output-rest [] h = refl
  output-rest (q ∷ qs) h = go q.holds (sized qs n) (asked (qs ++ (ask 14 (leb (at + n) len) ∷ [])) (To (at + n))) (output-rest qs h.1)
    where
      go : (t : Bool) (w : Size) (rest : Written) → output_asked len at w ≡ cond (leb at len) rest (Refused 12)
          → output_asked len at (cond t w (Unsized q.number)) ≡ cond (leb at len) (cond t rest (Refused q.number)) (Refused 12)
      go true w rest e = e
      go false w rest e = rw h.0

  -- and where it is asked first
  pub output-sized : (whole : Bool) (qs : List Question) → Without16 qs
      → output_asked len at (sized (ask 16 whole ∷ qs) n) ≡ written_for (ask 16 whole ∷ []) qs len at n
  unfolding sized asked output_asked
  output-sized true qs h = output-rest qs h
  output-sized false qs h = refl
