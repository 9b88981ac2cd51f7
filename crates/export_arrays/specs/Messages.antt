-- What is given of a message, an id and a payload: their numbers, in a row.
use Rattle.std.specs.Prelude.{ℕ, List, [], ◌∷◌}
use Rattle.types.specs.declared.StreamPlace.{StreamPlace}
use Rattle.messages_inventory_read.specs.declared.Inventory.{Inventory}
use Rattle.messages_response_read.specs.declared.Payload.{Payload}
use Rattle.messages_read.specs.declared.Message.{Message}
use Rattle.messages_read.specs.declared.Message.TheVariants.{GetPeers, Peers, ModifierRequest, ModifierResponse, Inv, SyncInfo, Unknown}
use Rattle.walk_by_index.specs.declared.StreamPayload.{StreamPayload}

abbrev pub no_numbers : ℕ → List ℕ
no_numbers next = 0 ∷ 0 ∷ 0 ∷ 0 ∷ next ∷ []

abbrev pub inventory_numbers : Inventory → ℕ → List ℕ
inventory_numbers i next = i.modifier_type ∷ i.count ∷ 0 ∷ i.start.0 ∷ next ∷ []

-- type byte, count, bogus count, the first one's place, next place
unfoldable pub message_numbers : Message → ℕ → List ℕ
message_numbers GetPeers next = no_numbers next
message_numbers (Peers p) next = 0 ∷ p.count ∷ p.bogus ∷ p.start.0 ∷ next ∷ []
message_numbers (ModifierRequest i) next = inventory_numbers i next
message_numbers (ModifierResponse i) next = inventory_numbers i next
message_numbers (Inv i) next = inventory_numbers i next
message_numbers SyncInfo next = no_numbers next
message_numbers Unknown next = no_numbers next

abbrev pub id_only : ℕ → ℕ → List ℕ
id_only place next = place ∷ []

abbrev pub payload_next : Payload → ℕ → List ℕ
payload_next p next = p.id.0 ∷ p.start.0 ∷ p.len ∷ next ∷ []

-- with the payload lengths together
abbrev pub payload_total : Payload × ℕ → ℕ → List ℕ
payload_total p next = p.0.id.0 ∷ p.0.start.0 ∷ p.0.len ∷ next ∷ p.1 ∷ []

-- ---- with places in the stream

abbrev pub stream_id_only : StreamPlace → ℕ → List ℕ
stream_id_only place next = place.0 ∷ []

abbrev pub stream_payload_next : StreamPayload → ℕ → List ℕ
stream_payload_next p next = p.id.0 ∷ p.bytes.start.0 ∷ p.bytes.len ∷ next ∷ []
