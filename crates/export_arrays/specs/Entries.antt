-- What is given of an entry, a handshake, a feature and a URL: their numbers, in a row.
use Rattle.std.specs.Prelude.{ℕ, List, [], ◌∷◌, Option, Some, None as no_value}
use Rattle.wire.specs.declared.Part.{Part}
use Rattle.types.specs.declared.Address.{Address}
use Rattle.types.specs.declared.Address.TheVariants.{None, V4, V6}
use Rattle.handshake_read.specs.declared.PeerSpec.{PeerSpec}
use Rattle.handshake_read.specs.declared.Handshake.{Handshake}
use Rattle.handshake_read.specs.declared.Feature.{Feature}
use Rattle.walk_by_index.specs.declared.StreamEntry.{StreamEntry}

-- timestamp, agent, version, name, the kind of address with its number and port, features, next place
abbrev pub entry_array : ℕ → PeerSpec → ℕ → ℕ → ℕ → ℕ → ℕ → List ℕ
entry_array timestamp p kind high low port next =
    timestamp
    ∷ p.agent.start ∷ p.agent.len
    ∷ p.version.major ∷ p.version.minor ∷ p.version.patch
    ∷ p.name.start ∷ p.name.len
    ∷ kind ∷ high ∷ low ∷ port
    ∷ p.features.count ∷ p.features.start
    ∷ next
    ∷ []

unfoldable pub with_address : ℕ → PeerSpec → Address → ℕ → List ℕ
with_address timestamp p None next = entry_array timestamp p 0 0 0 0 next
with_address timestamp p (V4 ip port) next = entry_array timestamp p 4 ip 0 port next
with_address timestamp p (V6 high low port) next = entry_array timestamp p 6 high low port next

abbrev pub peer_numbers : ℕ → PeerSpec → ℕ → List ℕ
peer_numbers timestamp p next = with_address timestamp p p.address next

abbrev pub handshake_next : Handshake → ℕ → List ℕ
handshake_next h next = peer_numbers h.timestamp h.peer next

-- an entry has no timestamp
abbrev pub entry_next : PeerSpec → ℕ → List ℕ
entry_next p next = peer_numbers 0 p next

-- an entry with places in the stream
abbrev pub stream_entry_next : StreamEntry → ℕ → List ℕ
stream_entry_next e next =
    entry_next
    (record {
      agent = record { start = e.agent.start.0; len = e.agent.len };
      version = e.version;
      name = record { start = e.name.start.0; len = e.name.len };
      address = e.address;
      features = record { count = e.features.count; start = e.features.start.0 };
    })
    next

abbrev pub feature_next : Feature → ℕ → List ℕ
feature_next f next = f.id ∷ f.body.start ∷ f.body.len ∷ next ∷ []

-- the size alone
abbrev pub size_only : ℕ → ℕ → List ℕ
size_only size next = size ∷ []

unfoldable pub url_next : Option Part → ℕ → List ℕ
url_next (Some p) next = 1 ∷ p.start ∷ p.len ∷ next ∷ []
url_next no_value next = 0 ∷ 0 ∷ 0 ∷ next ∷ []
