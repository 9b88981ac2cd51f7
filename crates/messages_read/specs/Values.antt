-- The value of a message that a caller puts together from its code, its body and what the code gives of the body: of a list what the reader by index gives
-- for each index below the given count.
use Rattle.std.specs.Prelude.{ℕ, List, ◌≡◌, length}
use Rattle.wire.specs.Reader.{got, Reader, Segment, part, list_of}
use Rattle.handshake.specs.Entry.{Entry, entry}
use Rattle.messages.specs.Message as Bodies
use Rattle.messages.specs.Message.{payload}
use Rattle.messages.specs.Value.{MessageValue, get_peers_value, peers_value, modifier_request_value, modifier_response_value, inv_value, sync_info_value, unknown_value}
use Rattle.messages_inventory_read.specs.Values.{ids_given}
use Rattle.messages_response_read.specs.Values.{payloads_given}
use Rattle.messages_inventory_read.specs.declared.Inventory.{Inventory}
use Rattle.messages_peers_read.specs.Values.{peers_given}
use Rattle.messages_peers_read.specs.declared.Peers.{Peers}
use Rattle.messages_read.specs.declared.Message.{Message}
use Rattle.messages_read.specs.declared.Message.TheVariants as Messages

-- SyncInfo and Unknown are the whole body as it is
unfoldable pub message_given : ℕ → ℕ → List ℕ → Message → MessageValue
message_given cap code body Messages.GetPeers = get_peers_value
message_given cap code body (Messages.Peers p) = peers_value (peers_given cap body p.count)
message_given cap code body (Messages.ModifierRequest i) = modifier_request_value i.modifier_type (ids_given body i.count)
message_given cap code body (Messages.ModifierResponse i) = modifier_response_value i.modifier_type (payloads_given body i.count)
message_given cap code body (Messages.Inv i) = inv_value i.modifier_type (ids_given body i.count)
message_given cap code body Messages.SyncInfo = sync_info_value body
message_given cap code body Messages.Unknown = unknown_value code body

-- ---- the list of a message, from the place that is given as the first one's

-- n is how many l has, and as many items read from the place `at` on are l
abbrev pub ReadFrom : {A : Type 0} → (List A → Reader A) → List ℕ → ℕ → ℕ → List A → ℕ → Type 0
ReadFrom p body n at l end = (n ≡ length l) × (list_of n p body at ≡ got l end)

-- what is given of a message that was read to a place of the body: of a list its count and its place
pub data ListGiven (body : List ℕ) (end : ℕ) : Bodies.Message → Message → Type 0 where
  no_peers : ListGiven body end Bodies.get_peers Messages.GetPeers
  peers : {l : List Entry} {p : Peers} → ReadFrom (λ before. entry) body p.count p.start.0 l end
      → ListGiven body end (Bodies.peers l) (Messages.Peers p)
  request : {type : ℕ} {l : List Segment} {i : Inventory} → ReadFrom (λ before. part 32) body i.count i.start.0 l end
      → ListGiven body end (Bodies.modifier_request type l) (Messages.ModifierRequest i)
  response : {type : ℕ} {l : List Bodies.Payload} {i : Inventory} → ReadFrom (payload (length body)) body i.count i.start.0 l end
      → ListGiven body end (Bodies.modifier_response type l) (Messages.ModifierResponse i)
  inv : {type : ℕ} {l : List Segment} {i : Inventory} → ReadFrom (λ before. part 32) body i.count i.start.0 l end
      → ListGiven body end (Bodies.inv type l) (Messages.Inv i)
  sync_info : {b : List ℕ} → ListGiven body end (Bodies.sync_info b) Messages.SyncInfo
  unknown : {b : List ℕ} → ListGiven body end (Bodies.unknown b) Messages.Unknown
