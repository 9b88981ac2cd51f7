-- `handshake_address_write::address_len` meets its contract: one arm for each kind of address.
use Rattle.std.proofs.Common.{arith, refl}
use Rattle.vlq.proofs.VlqLaws.{vlq_ten}
use Rattle.handshake.specs.Value.{address_bytes}
use Rattle.handshake_address_write.specs.AddressLaws.{length-v4, length-v6}
use Rattle.handshake_address_write.proofs.address_len.Goals as goal

pub overflow_add-result : goal.overflow_add-result
overflow_add-result c = omega (arith, c.vlq_len.ensures, vlq_ten c.from.result (omega arith))

pub overflow_add-result-in-V6 : goal.overflow_add-result-in-V6
overflow_add-result-in-V6 c = omega (arith, c.vlq_len-in-V6.ensures, vlq_ten c.from-in-V6.result (omega arith))

pub returns-in-None : goal.returns-in-None
unfolding address_bytes
returns-in-None c = rw c.in-None.is (refl, omega arith)

pub returns-in-V4 : goal.returns-in-V4
returns-in-V4 c =
    let ten = vlq_ten c.from.result (omega arith) in
    let n = rw c.from.ensures at c.vlq_len.ensures in
    rw c.in-V4.is (omega (arith, n, length-v4 c.in-V4.field-0 c.in-V4.port), omega (arith, c.vlq_len.ensures, ten))

pub returns-in-V6 : goal.returns-in-V6
returns-in-V6 c =
    let ten = vlq_ten c.from-in-V6.result (omega arith) in
    let n = rw c.from-in-V6.ensures at c.vlq_len-in-V6.ensures in
    rw c.in-V6.is (omega (arith, n, length-v6 c.in-V6.field-0 c.in-V6.field-1 c.in-V6.port), omega (arith, c.vlq_len-in-V6.ensures, ten))
