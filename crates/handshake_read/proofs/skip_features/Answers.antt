-- `handshake_read::skip_features` meets its contract. The loop's invariant and what follows from it stand in `LoopLaws` of wire.
use mathlib.Core.Path.{refl, sym}
use native.Mathlib.Omega.{arith}
use Rattle.std.proofs.lemmas.Result.{err_from_is_err_and}
use Rattle.wire.proofs.ReaderLaws.{map-got, map-refused}
use Rattle.wire.proofs.LoopLaws.{list-start, list_again, list-refused, list-end}
use Rattle.handshake.specs.Entry.{feature}
use Rattle.handshake_read.specs.Answers.{feature_of, features_ended}
use Rattle.handshake_read.proofs.skip_features.Goals as goal

pub loop-init : goal.loop-init
loop-init c = list-start (λ before. feature) features_ended _ _ _

pub loop-preserved : goal.loop-preserved
loop-preserved c =
    let e = map-got feature_of (sym c.in_ok-e.ensures) in
    list_again c.loop.invariant (omega arith) e.1 refl

pub returns-in_err-e : goal.returns-in_err-e
returns-in_err-e c =
    let e = map-refused feature_of (sym c.in_err-e.ensures) in
    let p = err_from_is_err_and c.from_residual.result c.from_residual.ensures.1 in
    rw (p.1, p.2) (list-refused c.loop.invariant (omega arith) e)

pub returns : goal.returns
returns c = list-end c.loop.invariant (omega arith)
