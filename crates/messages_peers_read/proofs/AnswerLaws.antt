-- What is given of a Peers body, from what its parts answered.
use Prim.Native.Nat.{ℕ}
use mathlib.Core.List.{List}
use mathlib.Core.Path.{◌≡◌}
use Rattle.wire.specs.Reader.{got, refused, list_of, map_answer}
use Rattle.wire.proofs.ReaderLaws.{map-value, map-refusal}
use Rattle.wire.proofs.ListOfLaws.{listed}
use Rattle.types.specs.declared.Network.{Network}
use Rattle.handshake.specs.Entry.{Entry, entry}
use Rattle.messages.specs.Message.{count}
use Rattle.messages.specs.Bogus.{bogus_count}
use Rattle.messages_peers_read.specs.Parts.{entries}
use Rattle.messages_peers_read.proofs.PartsLaws.{entries_start_lem}
use Rattle.messages_peers_read.specs.Answers.{peers_of}

module _ (network : Network) (cap : ℕ) (s : List ℕ) {n at : ℕ} (q : count cap s 0 ≡ got n at) where
  pub peers-got : {l : List Entry} {b e : ℕ} → list_of n (λ before. entry) s at ≡ got l e → bogus_count network l ≡ b
      → got (record { count = n; bogus = b; start = record { 0 = at } }) e ≡ map_answer (peers_of network s) (entries cap s 0)
  unfolding entries
  peers-got {l} {b} {e} r f = rw (q, r, map-value, entries_start_lem cap s q, f, (listed (λ before. entry) s n at r).0)

  pub peers-refused : {m : ℕ} → list_of n (λ before. entry) s at ≡ refused m → refused m ≡ map_answer (peers_of network s) (entries cap s 0)
  unfolding entries
  peers-refused r = rw (q, r, map-refusal)

pub ruleset peers_answers = (peers-got, peers-refused)
