-- That the bytes of an item's fields stand at its places, so that a place and a length say of the session's bytes what the fields say.
use Rattle.std.specs.Prelude.{ℕ, ◌+◌, List, ◌≡◌, length}
use Rattle.wire.specs.ReadsBack.{StandsAt}
use Rattle.handshake.specs.Places.{EntryPlaced}
use Rattle.messages.specs.Message.{Message}
use Rattle.messages.specs.Places.{MessagePlaced}
use Rattle.walk.specs.Session.{Fields, handshake_fields, message_fields}

-- the body of a message is the bytes of s from its place to the item's end, and what the message says stands in the body
pub record BodyPlaced (s : List ℕ) (start end : ℕ) (m : Message) : Type 0 where
  pub body : List ℕ
  pub stands : StandsAt s start body
  pub ends : start + length body ≡ end
  pub placed : MessagePlaced body m

-- the fields of an item of s that ends at a place
unfoldable pub FieldsPlaced : List ℕ → ℕ → Fields → Type 0
FieldsPlaced s end (handshake_fields h) = EntryPlaced s h.entry
FieldsPlaced s end (message_fields code start m) = BodyPlaced s start end m
