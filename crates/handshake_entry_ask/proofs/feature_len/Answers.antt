-- `handshake_entry_ask::feature_len` meets its contract: an id byte, the VLQ of the body's length, the body.
use native.Mathlib.Omega.{arith}
use Rattle.vlq.proofs.VlqLaws.{vlq_ten}
use Rattle.handshake_entry_ask.proofs.feature_len.Goals as goal

pub overflow_add-result : goal.overflow_add-result
overflow_add-result c = omega (arith, c.vlq_len.ensures, vlq_ten c.args.n (omega arith))

pub overflow_add-result-2 : goal.overflow_add-result-2
overflow_add-result-2 c = omega (arith, c.vlq_len.ensures, vlq_ten c.args.n (omega arith))

pub returns : goal.returns
returns c =
    let ten = vlq_ten c.args.n (omega arith) in
    (omega (arith, c.vlq_len.ensures), omega (arith, c.vlq_len.ensures, ten))
