-- The value of an entry that a caller puts together from what the code gives alone: of a part the bytes at its place, numbers as they are given, and of
-- the features what the reader by index gives for each index below the given count.
use Rattle.std.specs.Prelude.{ℕ, ◌-◌, List}
use Rattle.wire.specs.Reader.{map_answer}
use Rattle.wire.specs.declared.Part.{Part}
use Rattle.handshake.specs.ByIndex.{by_index}
use Rattle.handshake.specs.Tables.{bytes_at}
use Rattle.handshake.specs.Value.{FeatureValue, EntryValue, HandshakeValue}
use Rattle.handshake_read.specs.Parts.{feature_at}
use Rattle.handshake_read.specs.Answers.{feature_of}
use Rattle.handshake_read.specs.declared.Feature.{Feature}
use Rattle.handshake_read.specs.declared.PeerSpec.{PeerSpec}
use Rattle.handshake_read.specs.declared.Handshake.{Handshake}

-- the bytes that a part names
abbrev pub bytes_in : List ℕ → Part → List ℕ
bytes_in s p = bytes_at s p.start p.len

unfoldable pub feature_given : List ℕ → Feature → FeatureValue
feature_given s f = record { id = f.id; body = bytes_in s f.body }

-- the place of an entry: its first byte is the agent's length, the byte before the agent
abbrev pub entry_place : PeerSpec → ℕ
entry_place p = p.agent.start - 1

unfoldable pub peer_given : List ℕ → PeerSpec → EntryValue
peer_given s p =
    record {
      agent = bytes_in s p.agent;
      version = p.version;
      name = bytes_in s p.name;
      address = p.address;
      features = by_index (feature_given s) (λ k. map_answer feature_of (feature_at k s (entry_place p))) p.features.count;
    }

unfoldable pub handshake_given : List ℕ → Handshake → HandshakeValue
handshake_given s h = record { timestamp = h.timestamp; entry = peer_given s h.peer }
