-- What is given of a Peers body that was read says what the reading says; and the entries are read from the place that is given as the first one's.
use Rattle.std.specs.Prelude.{ℕ, List, map, ◌≡◌, length}
use Rattle.wire.proofs.ListOfLaws.{listed}
use Rattle.wire.specs.Reader.{got, list_of, map_answer}
use Rattle.types.specs.declared.Network.{Network}
use Rattle.handshake.proofs.ByIndexLaws.{by_index_lem, made_of_lem}
use Rattle.handshake.specs.Entry.{Entry, entry}
use Rattle.handshake.specs.Value.{entry_value}
use Rattle.handshake_read.specs.Answers.{peer_spec_of}
use Rattle.handshake_read.specs.Values.{peer_given}
use Rattle.handshake_read.proofs.ValuesLaws.{peer_given_lem}
use Rattle.messages_peers_read.specs.Answers.{peers_of}
use Rattle.messages_peers_read.specs.Parts.{entries, entries_start, entry_at}
use Rattle.messages_peers_read.proofs.PartsLaws.{entries-read, entry_at_lem}
use Rattle.messages_peers_read.specs.Values.{peers_given}

pub peers_given_lem : (cap : ℕ) (s : List ℕ) {l : List Entry} {e : ℕ} → entries cap s 0 ≡ got l e → peers_given cap s (length l) ≡ map entry_value l
unfolding peers_given
peers_given_lem cap s {l} q =
    by_index_lem (peer_given s) (λ k. map_answer peer_spec_of (entry_at cap k s)) entry_value (λ before. entry) s (entries_start s) l
    (λ k h. let x = entry_at_lem cap k s q h in (x.0, made_of_lem (peer_given s) peer_spec_of x.1 (peer_given_lem s x.0.from x.0.read)))

-- as many entries as are counted, read from the given place on, are the body's
pub entries_from : (network : Network) (cap : ℕ) (s : List ℕ) {l : List Entry} {e : ℕ} → entries cap s 0 ≡ got l e
    → list_of (peers_of network s l).count (λ before. entry) s (peers_of network s l).start.0 ≡ got l e
entries_from network cap s q =
    let r = entries-read cap s q in
    rw (listed (λ before. entry) s r.number (entries_start s) r.taken).0 r.taken
