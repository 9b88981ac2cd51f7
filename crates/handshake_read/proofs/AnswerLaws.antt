-- What the check is to use of the answers of readers; and what those of an entry answer, from tests on numbers and from
-- what their fields answered.
use Rattle.std.specs.Prelude.{ℕ, ◌+◌, ◌≤◌, ◌<◌, List, ◌≡◌, length, get_or}
use Rattle.std.proofs.lemmas.Result.{err_from_is_err_and}
use Rattle.wire.specs.Reader.{got, refused, part_of, list_of}
use Rattle.wire.specs.declared.Part.{Part}
use Rattle.wire.proofs.ReaderLaws.{field-got, field_missing, field-outside, map-got, map-refused, map-value, map-refusal}
use Rattle.wire.proofs.ListOfLaws.{listed}
use Rattle.types.specs.declared.Version.{Version}
use Rattle.types.specs.declared.Address.{Address}
use Rattle.handshake.specs.Entry.{version, EntryFeature, feature}
use Rattle.handshake_read.specs.declared.Features.{Features}
use Rattle.handshake_read.specs.Parts.{EntryHead, EntryFeatures}
use Rattle.handshake_read.proofs.PartsLaws.{entry_of}
use Rattle.handshake_read.specs.Answers.{features_of, peer_spec_of}

-- n features are n
pub counted : (n : ℕ) (s : List ℕ) (at : ℕ) {l : List EntryFeature} {e : ℕ} → list_of n (λ before. feature) s at ≡ got l e → length l ≡ n
counted n s at q = (listed (λ before. feature) s n at q).0

pub ruleset answers = (err_from_is_err_and, map-got, map-refused, map-value, map-refusal)

-- ---- a version, from tests on numbers

version_at : List ℕ → ℕ → Version
version_at s at = record { major = get_or s at 0; minor = get_or s (at + 1) 0; patch = get_or s (at + 2) 0 }

module _ (s : List ℕ) (at : ℕ) where
  pub version-got : at + 3 ≤ length s → version s at ≡ got (record { major = get_or s at 0; minor = get_or s (at + 1) 0; patch = get_or s (at + 2) 0 }) (at + 3)
  unfolding version version_at
  version-got h = field-got 1 3 version_at s at h

  pub version_missing : at ≤ length s → length s < at + 3 → version s at ≡ refused 1
  unfolding version version_at
  version_missing h g = field_missing 1 3 version_at s at h g

  pub version-outside : length s < at → version s at ≡ refused 12
  unfolding version version_at
  version-outside h = field-outside 1 3 version_at s at h

-- an entry from what was given of its parts
pub peer-read : (h : EntryHead) (l : EntryFeatures) {agent name : Part} {v : Version} {address : Address} {b : Features}
    → part_of h.agent ≡ agent → h.version ≡ v → part_of h.name ≡ name → h.address ≡ address → features_of l ≡ b
    → peer_spec_of (entry_of h l) ≡ record { agent = agent; version = v; name = name; address = address; features = b }
peer-read h l p q r a f = rw (← p, ← q, ← r, ← a, ← f)
