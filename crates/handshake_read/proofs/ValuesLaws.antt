-- What is given of an entry that was read says what the reading says; and the features are read from the place that is given as the first one's.
use Rattle.std.specs.Prelude.{ℕ, ◌-◌, List, map, ◌≡◌, length}
use Rattle.std.proofs.Common.{arith, ap}
use Rattle.wire.specs.Reader.{got, list_of, map_answer}
use Rattle.handshake.specs.ByIndex.{by_index}
use Rattle.handshake.proofs.ByIndexLaws.{by_index_lem, made_of_lem}
use Rattle.handshake.specs.Entry.{EntryFeature, feature, Entry, entry, EntryHandshake, handshake}
use Rattle.handshake.proofs.PlacesLaws.{gives-feature, gives-entry, handshake-entry}
use Rattle.handshake.specs.Value.{feature_value, entry_value, handshake_value}
use Rattle.handshake_read.specs.Parts.{feature_at}
use Rattle.handshake_read.proofs.PartsLaws.{entry-agent, entry_read, feature_at_lem}
use Rattle.handshake_read.specs.Answers.{feature_of, peer_spec_of, handshake_of}
use Rattle.handshake_read.specs.Values.{feature_given, peer_given, handshake_given}

feature_given_lem : (s : List ℕ) (at : ℕ) {f : EntryFeature} {e : ℕ} → feature s at ≡ got f e → feature_given s (feature_of f) ≡ feature_value f
unfolding feature_given feature_value
feature_given_lem s at {f} {e} q = ap (λ (b : List ℕ). record { id = f.id; body = b }) (gives-feature.holds f e q).0.bytes

pub peer_given_lem : (s : List ℕ) (at : ℕ) {e : Entry} {next : ℕ} → entry s at ≡ got e next → peer_given s (peer_spec_of e) ≡ entry_value e
unfolding peer_given entry_value
peer_given_lem s at {e} {next} q =
    let g = (gives-entry.holds e next q).1 in
    let place : e.agent.start - 1 ≡ at = omega (arith, entry-agent s at q) in
    let agent = g.agent.bytes in
    let name = g.name.bytes in
    let features : by_index (feature_given s) (λ k. map_answer feature_of (feature_at k s (e.agent.start - 1))) (length e.features) ≡ map feature_value e.features =
    rw place
    (by_index_lem (feature_given s) (λ k. map_answer feature_of (feature_at k s at)) feature_value (λ before. feature) s e.first e.features
    (λ k h. let x = feature_at_lem k s at q h in (x.0, made_of_lem (feature_given s) feature_of x.1 (feature_given_lem s x.0.from x.0.read)))) in
    λ i. record { agent = agent i; version = e.version; name = name i; address = e.address; features = features i }

pub handshake_given_lem : (s : List ℕ) {h : EntryHandshake} {e : ℕ} → handshake s 0 ≡ got h e → handshake_given s (handshake_of h) ≡ handshake_value h
unfolding handshake_given handshake_value
handshake_given_lem s {h} q =
    let r = handshake-entry s 0 q in
    let e = peer_given_lem s r.0 r.1 in
    λ i. record { timestamp = h.timestamp; entry = e i }

-- as many features as are counted, read from the given place on, are the entry's
pub features_from_lem : (s : List ℕ) (at : ℕ) {e : Entry} {next : ℕ} → entry s at ≡ got e next
    → list_of (peer_spec_of e).features.count (λ before. feature) s (peer_spec_of e).features.start ≡ got e.features next
features_from_lem s at q = entry_read s at q
