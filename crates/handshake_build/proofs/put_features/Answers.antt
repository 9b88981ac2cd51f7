-- `handshake_build::put_features` meets its contract: the count, Mode and Session were stored one after the other.
use Rattle.std.proofs.Common.{arith, length-set, ◌≡◌, rules, to_z, of_z, w64}
use Rattle.wire.proofs.OutputLaws.{wrote_byte, wrote_then, wrote_length}
use Rattle.wire_output.proofs.RoomLaws.{room-ok, wrote-ok}
use Rattle.handshake_build.specs.Parts.{mode_feature_bytes, session_feature_bytes}
use Rattle.handshake_build.proofs.put_features.Goals as goal

pub unwrap-end-requires : goal.unwrap-end-requires
unfolding mode_feature_bytes
unwrap-end-requires c = room-ok _ _ _ _ c.write_mode.ensures.value (simp length-set (omega arith))

pub unwrap-requires : goal.unwrap-requires
unfolding mode_feature_bytes session_feature_bytes
unwrap-requires c =
    let same : to_z w64 (of_z w64 c.args.config.session) ≡ c.args.config.session = search rules in
    let m = wrote-ok _ _ _ _ c.write_mode.ensures.value c.write_mode.ensures.out_after c.unwrap-end.ensures in
    room-ok _ _ _ _ (rw same at c.write_session.ensures.value) (omega (arith, c.requires, m.end, simp length-set at (wrote_length m)))

pub returns : goal.returns
unfolding mode_feature_bytes session_feature_bytes
returns c =
    let same : to_z w64 (of_z w64 c.args.config.session) ≡ c.args.config.session = search rules in
    let m = wrote-ok _ _ _ _ c.write_mode.ensures.value c.write_mode.ensures.out_after c.unwrap-end.ensures in
    let s = wrote-ok _ _ _ _ c.write_session.ensures.value c.write_session.ensures.out_after c.unwrap.ensures in
    wrote_then (wrote_byte c.args.out.now c.args.at 2) (wrote_then m (rw same at s))
