-- `handshake_address_read::address_of` meets its contract: the numbers are those of the address's bytes.
use Prim.Native.Nat.{◌+◌}
use native.Mathlib.Omega.{arith}
use Rattle.wire_numbers.specs.PartLaws.{number-part}
use Rattle.handshake_address_read.proofs.AddressLaws.{address-v4, address-v6, address-none}
use Rattle.handshake_address_read.proofs.address_of.Goals as goal

pub returns-then-l-eq-IPV4_LENGTH : goal.returns-then-l-eq-IPV4_LENGTH
returns-then-l-eq-IPV4_LENGTH c =
    let x = number-part 4 c.args.s.now c.args.at (c.args.at + 4) (omega arith) (c.big_endian.ensures.number (omega arith)) in
    address-v4 c.args.l c.args.s.now c.args.at c.args.port c.big_endian.result c.if-l-eq-IPV4_LENGTH.true x

pub returns-then-l-eq-IPV6_LENGTH : goal.returns-then-l-eq-IPV6_LENGTH
returns-then-l-eq-IPV6_LENGTH c =
    let x = number-part 8 c.args.s.now c.args.at (c.args.at + 8) (omega arith) (c.big_endian-high.ensures.number (omega arith)) in
    let y = number-part 8 c.args.s.now (c.args.at + 8) (c.args.at + 16) (omega arith) (c.big_endian-low.ensures.number (omega arith)) in
    address-v6 c.args.l c.args.s.now c.args.at c.args.port c.big_endian-high.result c.big_endian-low.result c.if-l-eq-IPV6_LENGTH.true (omega arith) x y

pub returns : goal.returns
returns c = address-none c.args.l c.args.s.now c.args.at c.args.port c.if-l-eq-IPV4_LENGTH.false c.if-l-eq-IPV6_LENGTH.false
