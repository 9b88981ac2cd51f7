-- `handshake_address_write::put_address` meets its contract: one arm for each kind of address.
use Rattle.std.proofs.Common.{arith}
use Rattle.wire.proofs.OutputLaws.{wrote_byte}
use Rattle.handshake.specs.Value.{address_bytes}
use Rattle.handshake_address_write.specs.AddressLaws.{length-v4, length-v6}
use Rattle.handshake_address_write.proofs.put_address.Goals as goal

pub bounds-out-at : goal.bounds-out-at
unfolding address_bytes
bounds-out-at c = omega (arith, rw c.in-None.is at c.requires)

pub put_v4-requires : goal.put_v4-requires
put_v4-requires c = omega (arith, rw c.in-V4.is at c.requires, length-v4 c.in-V4.ip c.in-V4.port)

pub put_v6-requires : goal.put_v6-requires
put_v6-requires c = omega (arith, rw c.in-V6.is at c.requires, length-v6 c.in-V6.high c.in-V6.low c.in-V6.port)

pub returns-in-None : goal.returns-in-None
unfolding address_bytes
returns-in-None c = rw c.in-None.is (wrote_byte c.args.out.now c.args.at 0)

pub returns-in-V4 : goal.returns-in-V4
unfolding address_bytes
returns-in-V4 c = rw c.in-V4.is c.put_v4.ensures

pub returns-in-V6 : goal.returns-in-V6
unfolding address_bytes
returns-in-V6 c = rw c.in-V6.is c.put_v6.ensures
