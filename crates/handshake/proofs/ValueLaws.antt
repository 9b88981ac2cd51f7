-- Entries and handshakes read back by value: wherever the bytes of a value stand, they are read to that value. One line for each field, by the laws of
-- the readers that a layout is put together from.
use Rattle.std.specs.Prelude.{ℕ, ◌+◌, ◌^◌, ◌≤◌, ◌<◌, true, ◌≡◌, leb, length, get_or, drop}
use Rattle.std.proofs.Common.{add-zero, arith, ap, sym, ◌∙◌, get_or-take, get_or-drop, leb-true}
use mathlib.Core.List.{List, [], ◌∷◌, map, flat_map}
use Rattle.wire.specs.Bytes.{Each, none, more}
use Rattle.wire.proofs.BytesLaws.{and-true, each_of, each_both, each_first, every-each}
use Rattle.wire.specs.Output.{Question}
use Rattle.wire.specs.Reader.{pure, and_then, place, list_of}
use Rattle.wire.proofs.ReaderLaws.{field-got}
use Rattle.wire.specs.ReadsBack.{StandsAt, ReadsBack}
use Rattle.wire.proofs.ReadsBackLaws.{reads-pure, reads-place, reads_then, reads-last, reads_byte, reads-part}
use Rattle.wire.proofs.ListLaws.{reads-each}
use Rattle.vlq_utf8.specs.Utf8.{utf8}
use Rattle.vlq.specs.Vlq.{limit}
use Rattle.vlq.proofs.VlqLaws.{reads-vlq, reads-vlq_length}
use Rattle.vlq.proofs.ShortStringLaws.{reads-short_string}
use Rattle.types.specs.declared.Version.{Version}
use Rattle.handshake.specs.Entry.{version, EntryFeature, feature, Entry, entry, handshake}
use Rattle.handshake.proofs.AddressLaws.{reads-flagged}
use Rattle.handshake.specs.Value.{AddressTyped, FeatureValue, EntryValue, HandshakeValue, feature_value, entry_value, handshake_value, feature_bytes, version_bytes, entry_bytes, handshake_bytes, utf8_strings, lengths_within, entries_asked}

-- ---- the values that read back

-- Lengths and counts that fit their byte (questions 13 and 15) are not among the conditions: here a byte may be any number, and reads back.
pub record Writable (v : EntryValue) : Type 0 where
  pub agent : utf8 v.agent ≡ true
  pub name : utf8 v.name ≡ true
  pub address : AddressTyped v.address
  pub features : Each (λ f. length f.body ≤ limit) v.features

-- ---- fields

-- the byte i of bytes that stand at a place
stands-byte : {s : List ℕ} {at : ℕ} {w : List ℕ} → StandsAt s at w → (i : ℕ) → i < length w → get_or s (at + i) 0 ≡ get_or w i 0
stands-byte {s} {at} {w} h i l =
    sym (get_or-drop at s i 0) ∙ sym (get_or-take (length w) (drop at s) i 0 l) ∙ ap (λ (b : List ℕ). get_or b i 0) h.bytes

reads-version : (v : Version) → ReadsBack version (λ x. x) (version_bytes v) v
unfolding version version_bytes
reads-version v = record {
  reads = λ s at h.
      let e : get_or s at 0 ≡ v.major = ap (λ (i : ℕ). get_or s i 0) (sym (add-zero at)) ∙ stands-byte h 0 (omega arith) in
      let f : get_or s (at + 1) 0 ≡ v.minor = stands-byte h 1 (omega arith) in
      let g : get_or s (at + 2) 0 ≡ v.patch = stands-byte h 2 (omega arith) in
      let read : List ℕ → ℕ → Version = λ s at. record { major = get_or s at 0; minor = get_or s (at + 1) 0; patch = get_or s (at + 2) 0 } in
      (read s at, field-got 1 3 read s at h.within, λ i. record { major = e i; minor = f i; patch = g i });
}

reads-feature : (f : FeatureValue) → length f.body ≤ limit → ReadsBack feature feature_value (feature_bytes f) f
unfolding feature feature_value feature_bytes
reads-feature f h =
    reads_then {w = f.id ∷ []} (reads_byte f.id) (λ id e.
    reads_then (reads-vlq_length (length f.body) h) (λ n q. rw q (
    reads-last (reads-part f.body) (λ body b.
    reads-pure (record { id = id; body = body }) (λ i. record { id = e i; body = b i })))))

-- the features and the place of the first, and the entry made of them
reads-features : (fs : List FeatureValue) → Each (λ f. length f.body ≤ limit) fs → {v : EntryValue} (made : ℕ → List EntryFeature → Entry)
    → ((first : ℕ) (l : List EntryFeature) → map feature_value l ≡ fs → entry_value (made first l) ≡ v)
    → ReadsBack (and_then place (λ first. and_then (list_of (length fs) (λ before. feature)) (λ l. pure (made first l)))) entry_value (flat_map feature_bytes fs) v
reads-features fs h made same =
    reads_then {p = place} {f = λ first. and_then (list_of (length fs) (λ before. feature)) (λ l. pure (made first l))} {w = []} reads-place (λ first u.
    reads-last (reads-each reads-feature fs h) (λ l e.
    reads-pure (made first l) (same first l e)))

-- ---- entries and handshakes

pub reads-entry : (v : EntryValue) → Writable v → ReadsBack entry entry_value (entry_bytes v) v
unfolding entry entry_value entry_bytes
reads-entry v h =
    reads_then (reads-short_string v.agent h.agent) (λ agent e₁.
    reads_then (reads-version v.version) (λ version e₂.
    reads_then (reads-short_string v.name h.name) (λ name e₃.
    reads-flagged v.address h.address (λ address e₄.
    reads_then {w = length v.features ∷ []} (reads_byte (length v.features)) (λ count e. rw e (
    reads-features v.features h.features
    (λ first features. record { agent = agent; version = version; name = name; address = address; first = first; features = features })
    (λ first features e₅ i. record { agent = e₁ i; version = e₂ i; name = e₃ i; address = e₄ i; features = e₅ i })))))))

pub reads-handshake : (v : HandshakeValue) → v.timestamp < 2 ^ 64 → Writable v.entry → ReadsBack handshake handshake_value (handshake_bytes v) v
unfolding handshake handshake_value handshake_bytes
reads-handshake v t h =
    reads_then (reads-vlq v.timestamp t) (λ timestamp e.
    reads-last (reads-entry v.entry h) (λ entry q.
    reads-pure _ (λ i. record { timestamp = e i; entry = q i })))

-- ---- where every question of a writer holds, and the address has the numbers of its type

abbrev pub Holds : Question → Type 0
Holds q = q.holds ≡ true

entry_writable : (e : EntryValue) → utf8_strings e ≡ true → (lengths_within e ≡ true) × AddressTyped e.address → Writable e
unfolding utf8_strings lengths_within
entry_writable e strings (lengths, typed) =
    let u = and-true (utf8 e.agent) (utf8 e.name) strings in
    record {
      agent = u.0;
      name = u.1;
      address = typed;
      features = each_of (λ f l. leb-true (length f.body) limit l) (every-each (λ f. leb (length f.body) limit) e.features lengths);
    }

-- of every entry in a list
pub asked_writable : (es : List EntryValue) → Each Holds (entries_asked es) → Each (λ e. AddressTyped e.address) es → Each Writable es
unfolding entries_asked
asked_writable es (more shorts (more strings (more few (more lengths none)))) typed =
    each_both entry_writable (every-each utf8_strings es strings)
    (each_both {Q = λ e. AddressTyped e.address} (λ e l a. (l, a)) (every-each lengths_within es lengths) typed)

pub asked_writable_one : (e : EntryValue) → Each Holds (entries_asked (e ∷ [])) → AddressTyped e.address → Writable e
asked_writable_one e h a = each_first (asked_writable (e ∷ []) h (more a none))
