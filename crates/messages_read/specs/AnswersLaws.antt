-- What is given of a Peers body is what is given of its message.
use Rattle.std.specs.Prelude.{ℕ, List, ◌≡◌}
use Rattle.std.proofs.Math.Path.{refl}
use Rattle.std.proofs.Common.{ap, ◌∙◌}
use Rattle.wire.specs.Reader.{Answer, got, refused, map_answer}
use Rattle.types.specs.declared.Network.{Network}
use Rattle.handshake.specs.Entry.{Entry}
use Rattle.messages.specs.Message.{peers, peers_body}
use Rattle.messages_peers_read.specs.Answers.{peers_of}
use Rattle.messages_peers_read.specs.Parts.{entries}
use Rattle.messages_peers_read.proofs.PartsLaws.{peers-entries}
use Rattle.messages_peers_read.specs.declared.Peers.{Peers}
use Rattle.messages_read.specs.Answers.{message_of}
use Rattle.messages_read.specs.declared.Message.TheVariants as Messages

module _ (network : Network) (s : List ℕ) where
  each : (r : Answer (List Entry)) → map_answer Messages.Peers (map_answer (peers_of network s) r) ≡ map_answer (message_of network s) (map_answer peers r)
  unfolding map_answer
  each (got l next) = refl
  each (refused m) = refl

  pub peers-message : (cap : ℕ) {r : Answer Peers} → r ≡ map_answer (peers_of network s) (entries cap s 0)
      → map_answer Messages.Peers r ≡ map_answer (message_of network s) (peers_body cap s 0)
  peers-message cap q = rw (peers-entries cap s 0) (ap (map_answer Messages.Peers) q ∙ each (entries cap s 0))
