-- `handshake_build::put_head` meets its contract: timestamp, agent, version and name were stored one after the other.
use Rattle.std.proofs.Common.{arith, length, le-leb}
use Rattle.wire.proofs.OutputLaws.{wrote_then, wrote_length}
use Rattle.wire_output.proofs.RoomLaws.{room-ok, wrote-ok, asked-ok, asked-wrote}
use Rattle.vlq.specs.ShortString.{max_short_string}
use Rattle.handshake.specs.Value.{version_bytes}
use Rattle.handshake_build.specs.Parts.{before_address_bytes}
use Rattle.handshake_build.specs.PartsLaws.{length-head}
use Rattle.handshake_build.proofs.put_head.Goals as goal

pub unwrap-time-requires : goal.unwrap-time-requires
unwrap-time-requires c =
    room-ok _ _ _ _ c.write_vlq.ensures.value (omega (arith, c.requires.name_in_bounds, length-head c.args.config c.args.agent.now c.args.name.now))

pub unwrap-first-requires : goal.unwrap-first-requires
unwrap-first-requires c =
    let ready = c.requires.build_ready in
    let size = length-head c.args.config c.args.agent.now c.args.name.now in
    let t = wrote-ok _ _ _ _ c.write_vlq.ensures.value c.write_vlq.ensures.out_after c.unwrap-time.ensures in
    asked-ok _ _ _ _ _ c.write_short_string.ensures.value (le-leb (length c.args.agent.now) max_short_string ready.shortagent, (ready.utfagent, tt))
    (omega (arith, c.requires.name_in_bounds, size, t.end, wrote_length t))

pub unwrap-last-requires : goal.unwrap-last-requires
unwrap-last-requires c =
    let size = length-head c.args.config c.args.agent.now c.args.name.now in
    let t = wrote-ok _ _ _ _ c.write_vlq.ensures.value c.write_vlq.ensures.out_after c.unwrap-time.ensures in
    let a = asked-wrote _ _ _ _ _ c.write_short_string.ensures.value c.write_short_string.ensures.out_after c.unwrap-first.ensures in
    room-ok _ _ _ _ c.write_part.ensures.value (omega (arith, c.requires.name_in_bounds, size, t.end, wrote_length t, a.end, wrote_length a))

pub unwrap-requires : goal.unwrap-requires
unwrap-requires c =
    let ready = c.requires.build_ready in
    let size = length-head c.args.config c.args.agent.now c.args.name.now in
    let t = wrote-ok _ _ _ _ c.write_vlq.ensures.value c.write_vlq.ensures.out_after c.unwrap-time.ensures in
    let a = asked-wrote _ _ _ _ _ c.write_short_string.ensures.value c.write_short_string.ensures.out_after c.unwrap-first.ensures in
    let v = wrote-ok _ _ _ _ c.write_part.ensures.value c.write_part.ensures.out_after c.unwrap-last.ensures in
    asked-ok _ _ _ _ _ c.write_short_string-2.ensures.value (le-leb (length c.args.name.now) max_short_string ready.shortname, (ready.utfname, tt))
    (omega (arith, c.requires.name_in_bounds, size, t.end, wrote_length t, a.end, wrote_length a, v.end, wrote_length v))

pub returns : goal.returns
unfolding before_address_bytes version_bytes
returns c =
    let t = wrote-ok _ _ _ _ c.write_vlq.ensures.value c.write_vlq.ensures.out_after c.unwrap-time.ensures in
    let a = asked-wrote _ _ _ _ _ c.write_short_string.ensures.value c.write_short_string.ensures.out_after c.unwrap-first.ensures in
    let v = wrote-ok _ _ _ _ c.write_part.ensures.value c.write_part.ensures.out_after c.unwrap-last.ensures in
    let n = asked-wrote _ _ _ _ _ c.write_short_string-2.ensures.value c.write_short_string-2.ensures.out_after c.unwrap.ensures in
    wrote_then t (wrote_then a (wrote_then v n))
