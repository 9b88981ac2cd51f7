-- What is given of a payload, from what its fields answered.
use Prim.Native.Nat.{ℕ, ◌+◌, ◌≤◌}
use mathlib.Core.List.{List}
use mathlib.Core.Path.{◌≡◌, ap, ◌∙◌}
use lib.ListN.{length}
use borrow.Author.Tests.{le-leb}
use Rattle.wire.specs.Reader.{got, Segment, part, part_of, map_answer}
use Rattle.wire.proofs.ReaderLaws.{part_at, length_part, map-value}
use Rattle.wire.specs.declared.Part.{Part}
use Rattle.vlq.specs.Vlq.{vlq_length}
use Rattle.messages.specs.Message.{payload_after}
use Rattle.messages_response_read.specs.Answers.{payload_sum}

pub payload-got : (s : List ℕ) (before at : ℕ) {id g : Segment} {d n e f sum : ℕ} {a b : Part} → part 32 s at ≡ got id d → part_of id ≡ a
    → vlq_length s d ≡ got n e → before + n ≤ length s → sum ≡ before + n → part n s e ≡ got g f → part_of g ≡ b
    → got (record { id = record { 0 = a.start }; start = record { 0 = b.start }; len = b.len }, sum) f
    ≡ map_answer (payload_sum before) (payload_after (length s) before s at)
unfolding payload_after
payload-got s before at {n = n} {e = e} p1 f1 p2 t z p3 f2 =
    let w = part_at n s e p3 in
    rw (p1, p2, le-leb (before + n) (length s) t, z, p3, map-value, ← f1, ← f2, ap length w.bytes ∙ length_part n s e w.inside)
