-- `handshake_build::build_len` meets its contract: the lengths of the parts together.
use Rattle.std.proofs.Common.{arith, ◌≡◌, rules, to_z, of_z, w64}
use Rattle.vlq.proofs.VlqLaws.{vlq_ten}
use Rattle.handshake_build.specs.Parts.{mode_feature_bytes, session_feature_bytes}
use Rattle.handshake_build.proofs.build_len.Goals as goal

pub overflow_add-head-3 : goal.overflow_add-head-3
overflow_add-head-3 c = omega (arith, c.vlq_len.ensures, vlq_ten c.args.config.timestamp (omega arith))

pub overflow_add-result : goal.overflow_add-result
overflow_add-result c =
    let t = vlq_ten c.args.config.timestamp (omega arith) in
    omega (arith, c.vlq_len.ensures, t, c.address_len.ensures.1)

pub overflow_add-result-4 : goal.overflow_add-result-4
overflow_add-result-4 c =
    let t = vlq_ten c.args.config.timestamp (omega arith) in
    omega (arith, c.vlq_len.ensures, t, c.address_len.ensures.1, c.mode_len.ensures.1, c.session_len.ensures.1)

pub returns : goal.returns
unfolding mode_feature_bytes session_feature_bytes
returns c =
    let same : to_z w64 (of_z w64 c.args.config.session) ≡ c.args.config.session = search rules in
    let m = c.mode_len.ensures.0 in
    let s = rw same at (c.session_len.ensures.0 c.args.config.network) in
    (omega (arith, c.vlq_len.ensures, c.address_len.ensures.0, m, s), omega (arith, m, c.mode_len.ensures.1), omega (arith, s, c.session_len.ensures.1))
