-- `handshake_verdict::find_feature` meets its contract. The loop's invariant and what follows from it stand in `FoundLaws`.
use mathlib.Core.Path.{sym}
use native.Mathlib.Omega.{arith}
use borrow.Author.Tests.{eq-eqb, ne_eqb}
use Rattle.wire.proofs.ReaderLaws.{map-got, map-refused}
use Rattle.handshake_read.specs.Answers.{feature_of}
use Rattle.handshake_verdict.proofs.FoundLaws.{none-start, none_again, first-here, none-refused, none_end}
use Rattle.handshake_verdict.proofs.find_feature.Goals as goal

pub loop-init : goal.loop-init
loop-init c = none-start _ _ _ _

pub returns-then-f-id : goal.returns-then-f-id
returns-then-f-id c =
    let e = map-got feature_of (sym c.in-Ok.ensures) in
    first-here c.loop.invariant (omega arith) e.1 e.2 (eq-eqb _ _ c.if-f-id.true)

pub loop-preserved : goal.loop-preserved
loop-preserved c =
    let e = map-got feature_of (sym c.in-Ok.ensures) in
    none_again c.loop.invariant (omega arith) e.1 e.2 (ne_eqb _ _ c.if-f-id.false)

pub returns-in_default : goal.returns-in_default
returns-in_default c =
    let e = map-refused feature_of (sym c.in_default.ensures) in
    none-refused c.loop.invariant (omega arith) e

pub returns : goal.returns
returns c = none_end c.loop.invariant (omega arith)
