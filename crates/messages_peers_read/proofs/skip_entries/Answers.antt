-- `messages_peers_read::skip_entries` meets its contract. The loop's invariant and what follows from it stand in `LoopLaws` of wire.
use mathlib.Core.Path.{refl, sym}
use native.Mathlib.Omega.{arith}
use Rattle.std.proofs.lemmas.Result.{err_from_is_err_and}
use Rattle.wire.proofs.ReaderLaws.{map-got, map-refused}
use Rattle.handshake.specs.Entry.{entry}
use Rattle.handshake_read.specs.Answers.{peer_spec_of}
use Rattle.messages_peers_read.specs.Answers.{entries_ended}
use Rattle.wire.proofs.LoopLaws.{list-start, list_again, list-refused, list-end}
use Rattle.messages_peers_read.proofs.skip_entries.Goals as goal

pub loop-init : goal.loop-init
loop-init c = list-start (λ before. entry) entries_ended _ _ _

pub loop-preserved : goal.loop-preserved
loop-preserved c =
    let e = map-got peer_spec_of (sym c.in_ok-e.ensures) in
    list_again c.loop.invariant (omega arith) e.1 refl

pub returns-in_err-e : goal.returns-in_err-e
returns-in_err-e c =
    let e = map-refused peer_spec_of (sym c.in_err-e.ensures) in
    let p = err_from_is_err_and c.from_residual.result c.from_residual.ensures.1 in
    rw (p.1, p.2) (list-refused c.loop.invariant (omega arith) e)

pub returns : goal.returns
returns c = list-end c.loop.invariant (omega arith)
