-- A checked writer asks by sizes alone and stores once every question holds. What it says and leaves is then what `written` and `output_after` say.
use Rattle.std.specs.Prelude.{ℕ, ◌+◌, ◌≤◌, List, ◌≡◌, refl, length}
use Rattle.std.proofs.Common.{arith, sym, ◌∙◌}
use Rattle.wire.specs.Output.{Written, To, Refused, Question, written, output_after, Wrote}
use Rattle.wire.proofs.OutputLaws.{AllHold, Accepted, written-to, written-accepted}
use Rattle.wire.proofs.StandingLaws.{after-to, after-refused}
use Rattle.wire_output.specs.Asked.{written_for}

module _ (before after : List Question) (out : List ℕ) (at : ℕ) (bs : List ℕ) {r : Written} where
  module _ (says : r ≡ written_for before after (length out) at (length bs)) where
    pub says_written : r ≡ written before after out at bs
    unfolding written
    says_written = says

    pub accepted : {e : ℕ} → r ≡ To e → Accepted before after out at bs e
    accepted {e} p = written-accepted before after out at bs e (sym says_written ∙ p)

    pub stored : {e n : ℕ} {last : List ℕ} → r ≡ To e → Wrote out at bs n last → (r ≡ written before after out at bs) × (last ≡ output_after r out at bs)
    stored p w = (says_written, after-to p w)

    pub kept : {m : ℕ} → r ≡ Refused m → (r ≡ written before after out at bs) × (out ≡ output_after r out at bs)
    kept p = (says_written, after-refused at bs p)

  -- a caller whose questions hold and who has room is not refused
  pub not-refused : {P : Type 0} {m : ℕ} → r ≡ written before after out at bs → AllHold before → AllHold after → at + length bs ≤ length out
      → r ≡ Refused m → P
  not-refused says f t h p =
      let q = written-to before after out at bs f t h in
      let z : ◌≡◌ {A = ℕ} 0 1 = cc in
      absurd (omega arith)

-- a writer that does not accept leaves the output as it was
pub kept_unaccepted : (r : Written) (out : List ℕ) (at : ℕ) (bs : List ℕ) → ((e : ℕ) → r ≡ To e → ⊥) → out ≡ output_after r out at bs
unfolding output_after
kept_unaccepted (To e) out at bs h = absurd (h e refl)
kept_unaccepted (Refused m) out at bs h = refl
