-- `messages_response_write::response_len` meets its contract: it is the sum as it stands.
use Prim.Native.Nat.{◌/◌}
use native.Mathlib.Omega.{arith}
use lib.ListN.{length}
use Rattle.vlq.proofs.VlqLaws.{vlq_ten}
use Rattle.messages_response_write.proofs.response_len.Goals as goal

pub overflow_add-result : goal.overflow_add-result
overflow_add-result c = omega (arith, c.vlq_len.ensures, vlq_ten (length c.args.payloads.now / 3) (omega arith))

pub overflow_add-result-2 : goal.overflow_add-result-2
overflow_add-result-2 c = omega (arith, c.vlq_len.ensures, vlq_ten (length c.args.payloads.now / 3) (omega arith), c.rows_len.ensures.1)
