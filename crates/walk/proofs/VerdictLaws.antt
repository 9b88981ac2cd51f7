-- What the verdict of Peers counts: of no entry nothing, of an entry alone one and whether its address is bogus, of a list what its parts count.
use Rattle.std.specs.Prelude.{ℕ, ◌+◌, cond, List, [], ◌∷◌, ◌++◌, ◌≡◌, refl}
use Rattle.std.proofs.Common.{length-append}
use Rattle.types.specs.declared.Network.{Network}
use Rattle.address_sanity.specs.Bogus.{bogus}
use Rattle.handshake.specs.Entry.{Entry}
use Rattle.messages.specs.Bogus.{bogus_count}
use Rattle.messages.proofs.BogusLaws.{bogus-one, bogus_parts}
use Rattle.messages.specs.Message.{peers}
use Rattle.walk.specs.Session.{Verdict, peer_verdict, peers_verdict, no_verdict, message_verdict}

abbrev pub entries_counted : Verdict → ℕ
entries_counted (peers_verdict entries bogus) = entries
entries_counted (peer_verdict n) = 0
entries_counted no_verdict = 0

abbrev pub bogus_counted : Verdict → ℕ
bogus_counted (peers_verdict entries bogus) = bogus
bogus_counted (peer_verdict n) = 0
bogus_counted no_verdict = 0

pub verdict-none : (network : Network) → message_verdict network (peers []) ≡ peers_verdict 0 0
unfolding message_verdict bogus_count
verdict-none network = refl

pub verdict-one : (network : Network) (e : Entry) → message_verdict network (peers (e ∷ [])) ≡ peers_verdict 1 (cond (bogus e.address network) 1 0)
unfolding message_verdict
verdict-one network e = rw (bogus-one network e) refl

pub verdict_parts : (network : Network) (es fs : List Entry)
    → message_verdict network (peers (es ++ fs))
    ≡ peers_verdict (entries_counted (message_verdict network (peers es)) + entries_counted (message_verdict network (peers fs)))
    (bogus_counted (message_verdict network (peers es)) + bogus_counted (message_verdict network (peers fs)))
unfolding message_verdict
verdict_parts network es fs = rw (length-append es fs, bogus_parts network es fs) refl
