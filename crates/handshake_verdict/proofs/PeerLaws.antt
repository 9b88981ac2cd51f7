-- What was read of an entry is that entry again.
use Rattle.std.specs.Prelude.{ℕ, List, ◌∷◌, ◌≡◌, refl, length}
use Rattle.std.proofs.Common.{ap}
use Rattle.wire.proofs.ListOfLaws.{Listed, end, next}
use Rattle.wire.specs.Reader.{got}
use Rattle.handshake.specs.Entry.{EntryFeature, feature, Entry, entry, EntryHandshake, handshake}
use Rattle.handshake.proofs.PlacesLaws.{gives-entry, handshake-entry}
use Rattle.handshake_read.specs.declared.Handshake.{Handshake}
use Rattle.handshake_read.specs.declared.PeerSpec.{PeerSpec}
use Rattle.handshake_read.specs.Answers.{peer_spec_of, handshake_of}
use Rattle.handshake_read.proofs.PartsLaws.{entry_listed}
use Rattle.handshake_verdict.specs.Peer.{features_from, entry_in}

features_again : (s : List ℕ) {before : List EntryFeature} {at e : ℕ} {l : List EntryFeature} → Listed (λ before. feature) s before at l e
    → features_from (length l) s at ≡ l
unfolding features_from
features_again s end = refl
features_again s (next {a = f} q rest) = rw q (ap (λ (l : List EntryFeature). f ∷ l) (features_again s rest))

module _ (s : List ℕ) where
  entry_itself : (at : ℕ) {e : Entry} {next : ℕ} → entry s at ≡ got e next → entry_in s (peer_spec_of e) ≡ e
  unfolding entry_in
  entry_itself at {e} {next} q =
      let placed = (gives-entry.holds e next q).1 in
      let agent = placed.agent.bytes in
      let name = placed.name.bytes in
      let features = features_again s (entry_listed s at q) in
      λ i. record {
        agent = record { start = e.agent.start; bytes = agent i };
        version = e.version;
        name = record { start = e.name.start; bytes = name i };
        address = e.address;
        first = e.first;
        features = features i;
      }

  pub entry_again : (at : ℕ) {e : Entry} {next : ℕ} {peer : PeerSpec} → entry s at ≡ got e next → peer_spec_of e ≡ peer → entry_in s peer ≡ e
  entry_again at q p = rw (← p) (entry_itself at q)

  pub handshake_again : {h : EntryHandshake} {e : ℕ} {given : Handshake} → handshake s 0 ≡ got h e → handshake_of h ≡ given → entry_in s given.peer ≡ h.entry
  handshake_again q p = let r = handshake-entry s 0 q in rw (← p) (entry_itself r.0 r.1)

pub ruleset again = (entry_again, handshake_again)
