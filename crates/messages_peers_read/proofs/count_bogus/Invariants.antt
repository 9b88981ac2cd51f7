-- `messages_peers_read::count_bogus` meets its contract. The loop's invariant and what follows from it stand in `LoopLaws` of wire; no more entries are bogus
-- than are read, so that their number fits.
use Prim.Native.Nat.{◌≤◌}
use Rattle.handshake.specs.Entry.{entry}
use Rattle.messages.specs.Bogus.{bogus_count}
use Rattle.wire.proofs.LoopLaws.{ListSoFar}
use Rattle.messages_peers_read.proofs.count_bogus.Given as goal

abbrev pub invariant-loop : goal.invariant-loop
invariant-loop l = ListSoFar (λ before. entry) (bogus_count l.fn.network) l.body l.n l.initial.d.at l.bogus l.d.at l.counter × (l.bogus ≤ l.counter)
