-- `handshake_entry_ask::address_len` meets its contract: the length does not depend on the address's bytes.
use native.Mathlib.Omega.{arith}
use mathlib.Core.Path.{sym, ap}
use lib.ListN.{length}
use Rattle.vlq.proofs.VlqLaws.{vlq_ten}
use Rattle.handshake_entry_ask.specs.LengthLaws.{length-v4, length-v6, address-none}
use Rattle.handshake_entry_ask.proofs.address_len.Goals as goal

pub overflow_add-result : goal.overflow_add-result
overflow_add-result c = omega (arith, c.vlq_len.ensures, vlq_ten c.args.e.port (omega arith))

pub returns-then-e : goal.returns-then-e
returns-then-e c = (λ bytes. omega (arith, c.vlq_len.ensures, length-v4 bytes c.args.e.port c.args.e.addrlen c.if-e.true), omega (arith, c.vlq_len.ensures, vlq_ten c.args.e.port (omega arith)))

pub overflow_add-result-then-e-2 : goal.overflow_add-result-then-e-2
overflow_add-result-then-e-2 c = omega (arith, c.vlq_len-then-e-2.ensures, vlq_ten c.args.e.port (omega arith))

pub returns-then-e-2 : goal.returns-then-e-2
returns-then-e-2 c = (λ bytes. omega (arith, c.vlq_len-then-e-2.ensures, length-v6 bytes c.args.e.port c.args.e.addrlen c.if-e-2.true), omega (arith, c.vlq_len-then-e-2.ensures, vlq_ten c.args.e.port (omega arith)))

pub returns : goal.returns
returns c = (λ bytes. ap length (sym (address-none bytes c.args.e.port c.args.e.addrlen c.if-e.false c.if-e-2.false)), omega arith)
