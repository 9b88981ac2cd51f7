-- What was read of an entry, as an entry again: the bytes that stand at its places. A `PeerSpec` may hold any numbers; of one that was read, it is
-- the entry itself (`PeerLaws`).
use Rattle.std.specs.Prelude.{ℕ, zero, suc, List, [], ◌∷◌, take, drop}
use Rattle.wire.specs.Reader.{Answer, got, refused, Segment}
use Rattle.wire.specs.declared.Part.{Part}
use Rattle.handshake.specs.Entry.{EntryFeature, feature, Entry}
use Rattle.handshake_read.specs.declared.PeerSpec.{PeerSpec}

-- the bytes of a part
abbrev pub segment_in : List ℕ → Part → Segment
segment_in s p = record { start = p.start; bytes = take p.len (drop p.start s) }

-- a feature that was read and those after it; a refusal ends them
abbrev pub features_then : Answer EntryFeature → (ℕ → List EntryFeature) → List EntryFeature
features_then (got f next) rest = f ∷ rest next
features_then (refused m) rest = []

-- n features from a place on, up to one that is refused
unfoldable pub features_from : ℕ → List ℕ → ℕ → List EntryFeature
features_from zero s at = []
features_from (suc n) s at = features_then (feature s at) (features_from n s)

unfoldable pub entry_in : List ℕ → PeerSpec → Entry
entry_in s p =
    record {
      agent = segment_in s p.agent;
      version = p.version;
      name = segment_in s p.name;
      address = p.address;
      first = p.features.start;
      features = features_from p.features.count s p.features.start;
    }
