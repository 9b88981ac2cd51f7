-- `handshake_build::build` meets its contract: every question was asked first, and the handshake was stored
-- once all held.
use Rattle.std.proofs.Common.{[], ◌∷◌, refl, length}
use Rattle.std.proofs.lemmas.Result.{err_from_is_err_and}
use Rattle.wire_output.specs.CheckedLaws.{accepted, stored, kept}
use Rattle.handshake.specs.Value.{handshake_bytes, entries_asked}
use Rattle.handshake.specs.Writes.{built, built_written}
use Rattle.handshake_build.specs.Parts.{config_of}
use Rattle.handshake_build.specs.PartsLaws.{built-says, build_ready}
use Rattle.handshake_build.proofs.TypedLaws.{config-typed}
use Rattle.handshake_build.proofs.build.Goals as goal

pub returns-in_err-end : goal.returns-in_err-end
unfolding built_written
returns-in_err-end c =
    let c' = config_of c.args.config c.args.agent.now c.args.name.now in
    let qs = entries_asked ((built c').entry ∷ []) in
    let says = built-says c.args.config c.args.agent.now c.args.name.now (length c.args.out.now) c.args.at c.in_err-end.ensures c.build_size-size.ensures in
    let left = kept [] qs _ _ (handshake_bytes (built c')) says refl in
    let p = err_from_is_err_and c.from_residual.result c.from_residual.ensures.1 in
    rw (p.1, p.2) (record { value = left.0; out_after = left.1; timestamp_bound = config-typed c.args.config _ c.well_formed.1.1.0 })

pub put_build-requires : goal.put_build-requires
put_build-requires c =
    let c' = config_of c.args.config c.args.agent.now c.args.name.now in
    let qs = entries_asked ((built c').entry ∷ []) in
    let says = built-says c.args.config c.args.agent.now c.args.name.now (length c.args.out.now) c.args.at c.in_ok-end.ensures c.build_size-size.ensures in
    let yes = accepted [] qs c.args.out.now c.args.at (handshake_bytes (built c')) says refl in
    record { build_ready = build_ready c.args.config c.args.agent.now c.args.name.now yes.rest; name_in_bounds = yes.room }

pub returns : goal.returns
unfolding built_written
returns c =
    let c' = config_of c.args.config c.args.agent.now c.args.name.now in
    let qs = entries_asked ((built c').entry ∷ []) in
    let says = built-says c.args.config c.args.agent.now c.args.name.now (length c.args.out.now) c.args.at c.in_ok-end.ensures c.build_size-size.ensures in
    let done = stored [] qs _ _ (handshake_bytes (built c')) says refl c.put_build.ensures in
    record { value = done.0; out_after = done.1; timestamp_bound = config-typed c.args.config _ c.well_formed.1.1.0 }
