-- `handshake_build::put_build` meets its contract: head, address and features were stored one after the other.
use Rattle.std.proofs.Common.{arith}
use Rattle.wire.proofs.OutputLaws.{wrote_then, wrote_length}
use Rattle.wire_output.proofs.RoomLaws.{room-ok, wrote-ok}
use Rattle.handshake_build.specs.PartsLaws.{built_parts, length-built}
use Rattle.handshake_build.proofs.put_build.Goals as goal

pub put_head-head-requires-clause-name_in_bounds : goal.put_head-head-requires-clause-name_in_bounds
put_head-head-requires-clause-name_in_bounds c = omega (arith, c.requires.name_in_bounds, length-built c.args.config c.args.agent.now c.args.name.now)

pub unwrap-address-requires : goal.unwrap-address-requires
unwrap-address-requires c =
    let size = length-built c.args.config c.args.agent.now c.args.name.now in
    room-ok _ _ _ _ c.write_address.ensures.value (omega (arith, c.requires.name_in_bounds, size, c.put_head-head.ensures.end, wrote_length c.put_head-head.ensures))

pub put_features-requires : goal.put_features-requires
put_features-requires c =
    let size = length-built c.args.config c.args.agent.now c.args.name.now in
    let a = wrote-ok _ _ _ _ c.write_address.ensures.value c.write_address.ensures.out_after c.unwrap-address.ensures in
    omega (arith, c.requires.name_in_bounds, size, c.put_head-head.ensures.end, wrote_length c.put_head-head.ensures, a.end, wrote_length a)

pub returns : goal.returns
returns c =
    let a = wrote-ok _ _ _ _ c.write_address.ensures.value c.write_address.ensures.out_after c.unwrap-address.ensures in
    rw (built_parts c.args.config c.args.agent.now c.args.name.now) (wrote_then c.put_head-head.ensures (wrote_then a c.put_features.ensures))
