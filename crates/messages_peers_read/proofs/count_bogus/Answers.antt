-- `messages_peers_read::count_bogus` meets its contract. The loop's invariant and what follows from it stand in `LoopLaws` of wire; no more entries are bogus
-- than are read, so that their number fits.
use mathlib.Core.Path.{sym, ap}
use native.Mathlib.Omega.{arith}
use Rattle.std.proofs.lemmas.Result.{err_from_is_err_and}
use Rattle.wire.proofs.ReaderLaws.{map-got, map-refused}
use Rattle.handshake.specs.Entry.{entry}
use Rattle.handshake_read.specs.declared.PeerSpec.{PeerSpec}
use Rattle.handshake_read.specs.Answers.{peer_spec_of}
use Rattle.messages.specs.Bogus.{bogus_count}
use Rattle.wire.proofs.LoopLaws.{list-start, list_again, list-refused, list-end}
use Rattle.messages_peers_read.proofs.BogusLoop.{bogus-more, at_most_one}
use Rattle.messages_peers_read.proofs.count_bogus.Goals as goal

pub loop-init : goal.loop-init
unfolding bogus_count
loop-init c = (list-start (λ before. entry) (bogus_count c.args.network) _ _ _, omega arith)

pub loop-preserved : goal.loop-preserved
loop-preserved c =
    let e = map-got peer_spec_of (sym c.in_ok-peer.ensures) in
    let address = ap (λ (p : PeerSpec). p.address) e.2 in
    let seen = rw (c.loop.invariant.0.seen, address, ← c.is_bogus_address.ensures, ← c.from-bogus.ensures) at (bogus-more c.args.network c.loop.invariant.0.list e.0) in
    (list_again c.loop.invariant.0 (omega arith) e.1 seen, omega (arith, at_most_one c.is_bogus_address.result, c.loop.invariant.1))

pub returns-in_err-peer : goal.returns-in_err-peer
returns-in_err-peer c =
    let e = map-refused peer_spec_of (sym c.in_err-peer.ensures) in
    let p = err_from_is_err_and c.from_residual.result c.from_residual.ensures.1 in
    rw (p.1, p.2) (list-refused c.loop.invariant.0 (omega arith) e)

pub returns : goal.returns
returns c = list-end c.loop.invariant.0 (omega arith)
