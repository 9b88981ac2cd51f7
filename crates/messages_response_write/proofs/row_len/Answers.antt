-- `messages_response_write::row_len` meets its contract: it is the sum as it stands, and a VLQ has at most ten bytes.
use native.Mathlib.Omega.{arith}
use borrow.Author.Tests.{leb-true}
use Rattle.vlq.specs.Vlq.{limit}
use Rattle.vlq.proofs.VlqLaws.{vlq_ten}
use Rattle.messages_response_write.specs.Asked.{row_within}
use Rattle.messages_response_write.specs.Asked.{row_length}
use Rattle.messages_response_write.proofs.row_len.Goals as goal

pub overflow_add-result : goal.overflow_add-result
unfolding row_within
overflow_add-result c = omega (arith, c.vlq_len.ensures, vlq_ten c.args.row.len (omega (arith, leb-true c.args.row.len limit c.requires)))

pub overflow_add-result-2 : goal.overflow_add-result-2
unfolding row_within
overflow_add-result-2 c = omega (arith, c.vlq_len.ensures, vlq_ten c.args.row.len (omega (arith, leb-true c.args.row.len limit c.requires)), leb-true c.args.row.len limit c.requires)

pub returns : goal.returns
unfolding row_length row_within
returns c =
    let small = leb-true c.args.row.len limit c.requires in
    let ten = vlq_ten c.args.row.len (omega (arith, small)) in
    (omega (arith, c.vlq_len.ensures), omega (arith, c.vlq_len.ensures, ten, small))
