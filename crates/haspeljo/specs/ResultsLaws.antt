-- What the predicates of `Results` say, each equation in full: number and array of a reader; number, array and output of a writer.
use Rattle.std.specs.Prelude.{ℕ, List, ◌≡◌}
use Rattle.wire.specs.Output.{output_after}
use Rattle.wire.specs.Reader.{Answer}
use Rattle.haspeljo.specs.Results.{number_of, array_after, ReaderLeaves, written_number, end_after, Writer, WriterLeaves}

pub reader-says : {A : Type 0} {values : A → ℕ → List ℕ} {answer : Answer A} {n : ℕ} {before after : List ℕ} → ReaderLeaves values answer n before after
    → (n ≡ number_of answer) × (after ≡ array_after values answer before)
reader-says leaves = (leaves.number, leaves.array)

pub writer_says : {w : Writer} {at n : ℕ} {before after out last : List ℕ} → WriterLeaves w at n before after out last
    → (n ≡ written_number (w.says out at)) × (after ≡ end_after (w.says out at) before) × (last ≡ output_after (w.says out at) out at w.bytes)
writer_says leaves = (leaves.number, leaves.array, leaves.output)
