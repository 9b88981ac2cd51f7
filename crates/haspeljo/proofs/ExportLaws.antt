-- What an exported function leaves, from what the function it calls answered: number and array for a reader, number, end and output for a writer.
use Prim.Native.Nat.{ℕ}
use mathlib.Core.List.{List, [], ◌∷◌}
use mathlib.Core.Path.{◌≡◌, refl, sym, ap, ◌∙◌}
use Rattle.wire.specs.Reader.{Answer, got, refused}
use Rattle.wire.specs.Output.{output_after, Written}
use Rattle.messages_peers_read.specs.declared.Peers.{Peers}
use Rattle.messages_read.specs.declared.Message.TheVariants as Messages
use Rattle.export_arrays.specs.Messages.{message_numbers}
use Rattle.haspeljo.specs.Results.{ReaderLeaves, written_number, end_after, Writer, WriterLeaves}

-- a reader said r, which means the answer; s is the case that r is, and last is stored in the array
module _ {R A : Type 0} (meaning : R → Answer A) (values : A → ℕ → List ℕ) (array : List ℕ) {r s : R} {answer : Answer A} (says : meaning r ≡ answer) (is : r ≡ s) where
  pub reader-got : {a : A} {next : ℕ} {last : List ℕ} → meaning s ≡ got a next → last ≡ values a next → ReaderLeaves values answer 0 array last
  reader-got means gives = let e = sym says ∙ ap meaning is ∙ means in record { number = rw e; array = rw e gives }

  pub reader-refused : {m : ℕ} → meaning s ≡ refused m → ReaderLeaves values answer m array array
  reader-refused means = let e = sym says ∙ ap meaning is ∙ means in record { number = rw e; array = rw e }

-- a writer said r and left last in the output; of r the number n was returned and the array left
pub writer_leaves : (w : Writer) (at : ℕ) {r : Written} {n : ℕ} {before after out last : List ℕ}
    → (r ≡ w.says out at) × (last ≡ output_after r out at w.bytes)
    → (n ≡ written_number r) × (after ≡ end_after r before)
    → WriterLeaves w at n before after out last
writer_leaves w at wrote result =
    record {
      number = rw (← wrote.0) result.0;
      array = rw (← wrote.0) result.1;
      output = rw (← wrote.0) wrote.1;
    }

-- the numbers of a Peers body are those of its message
pub peers-numbers : (p : Peers) (next : ℕ) → 0 ∷ p.count ∷ p.bogus ∷ p.start.0 ∷ next ∷ [] ≡ message_numbers (Messages.Peers p) next
unfolding message_numbers
peers-numbers p next = refl
