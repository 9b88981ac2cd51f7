-- A writer called where its questions hold and there is room: it is not refused, and it wrote its bytes.
use Rattle.std.specs.Prelude.{ℕ, ◌+◌, ◌≤◌, List, [], ◌≡◌, refl, length}
use Rattle.std.proofs.Common.{Result, Ok, Err, arith, ◌∙◌}
use Rattle.std.specs.Result.{IsOk}
use Rattle.wire.specs.declared.Refusal.{Refusal}
use Rattle.wire.specs.Output.{Question, To, written_said, written, output_after, Wrote}
use Rattle.wire.proofs.OutputLaws.{AllHold, written-to, wrote_to}

-- one that asks questions after that of the place
module _ (after : List Question) (out : List ℕ) (at : ℕ) (bs : List ℕ) (r : Result ℕ Refusal) (says : written_said r ≡ written [] after out at bs) where
  pub asked-ok : AllHold after → at + length bs ≤ length out → IsOk r
  asked-ok holds h =
      go r (says ∙ written-to [] after out at bs tt holds h)
    where
      go : (r : Result ℕ Refusal) → written_said r ≡ To (at + length bs) → IsOk r
      go (Ok e) q = refl
      go (Err m) q = let z : ◌≡◌ {A = ℕ} 0 1 = cc in absurd (omega arith)

  pub asked-wrote : {last : List ℕ} {e : ℕ} → last ≡ output_after (written_said r) out at bs → r ≡ Ok e → Wrote out at bs e last
  asked-wrote {e = e} left is = wrote_to [] after out at bs says left e (rw is)

-- one that asks nothing but place and room
module _ (out : List ℕ) (at : ℕ) (bs : List ℕ) (r : Result ℕ Refusal) where
  pub room-ok : written_said r ≡ written [] [] out at bs → at + length bs ≤ length out → IsOk r
  room-ok says h = asked-ok [] out at bs r says tt h

  pub wrote-ok : {last : List ℕ} {e : ℕ} → written_said r ≡ written [] [] out at bs → last ≡ output_after (written_said r) out at bs → r ≡ Ok e → Wrote out at bs e last
  wrote-ok says left is = asked-wrote [] out at bs r says left is
