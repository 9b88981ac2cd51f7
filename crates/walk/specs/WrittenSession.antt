-- Written sessions (document 01, "The session walk", the paragraph on written sessions): lists of writes from place 0 of an output.
use Rattle.std.specs.Prelude.{ℕ, ◌^◌, ◌<◌, Bool, true, false, List, [], ◌∷◌, map, ◌≡◌, ltb, take}
use Rattle.wire.specs.Bytes.{every}
use Rattle.wire.specs.Output.{output_after, Written, To, Refused}
use Rattle.types.specs.declared.Network.{Network}
use Rattle.handshake.specs.Value.{AddressTyped, HandshakeValue, handshake_value, handshake_bytes}
use Rattle.handshake.specs.Tables.{Tables}
use Rattle.handshake.specs.Writes.{Config, built, built_written, handshake_at_row, handshake_written}
use Rattle.messages.specs.Value.{MessageValue, message_value}
use Rattle.messages.specs.Writes as Messages
use Rattle.messages.specs.Writes.{MessageWrite, message_bytes, message_written}
use Rattle.walk.specs.Walk.{Item}
use Rattle.walk.specs.Session.{Fields, handshake_fields, message_fields, Content}

-- one call of a writer, with all that it was given
pub data Write : Type 0 where
  -- a timestamp, the tables with their buffer, and the row of the entry
  write_handshake : ℕ → Tables → ℕ → Write
  write_built : Config → Write
  write_message : MessageWrite → Write

-- the value of a write and of an item: a timestamp with an entry, or a message
pub data Value : Type 0 where
  session_handshake : HandshakeValue → Value
  session_message : MessageValue → Value

unfoldable pub write_value : Write → Value
write_value (write_handshake timestamp ts k) = session_handshake (handshake_at_row timestamp ts k)
write_value (write_built c) = session_handshake (built c)
write_value (write_message w) = session_message (Messages.value_of w)

unfoldable pub fields_value : Fields → Value
fields_value (handshake_fields h) = session_handshake (handshake_value h)
fields_value (message_fields code start m) = session_message (message_value code m)

-- ---- what the types of a call's arguments say of the numbers that a reading gives back: a timestamp is a u64, an address and its port are of
-- their widths, and a lent buffer is of bytes. Of the other numbers nothing needs to be said: the writers test them, or write them as they are

unfoldable pub bytes_typed : List ℕ → Bool
bytes_typed l = every (λ b. ltb b 256) l

unfoldable pub MessageTyped : MessageWrite → Type 0
MessageTyped (Messages.write_peers ts) = bytes_typed ts.buffer ≡ true
MessageTyped Messages.write_get_peers = Unit {0}
MessageTyped (Messages.write_modifier_request type ids buffer) = Unit {0}
MessageTyped (Messages.write_modifier_response type payloads buffer) = Unit {0}
MessageTyped (Messages.write_inv type ids buffer) = Unit {0}
MessageTyped (Messages.write_sync_info body) = Unit {0}
MessageTyped (Messages.write_unknown code body) = Unit {0}

unfoldable pub Typed : Write → Type 0
Typed (write_handshake timestamp ts k) = (timestamp < 2 ^ 64) × (bytes_typed ts.buffer ≡ true)
Typed (write_built c) = (c.timestamp < 2 ^ 64) × AddressTyped c.address
Typed (write_message w) = MessageTyped w

-- `Typed` of each write of a list. No theorem asks it: a call has it of its write (`Calls`, from the writers' contracts), and the laws about `write_all`,
-- which is told writes and no calls, ask it in its place
pub data AllTyped : List Write → Type 0 where
  none : AllTyped []
  more : {w : Write} {ws : List Write} → Typed w → AllTyped ws → AllTyped (w ∷ ws)

-- ---- what a list of writes leaves

module _ (network : Network) (cap : ℕ) where
  -- what a write says, into an output from a place
  unfoldable pub said : Write → List ℕ → ℕ → Written
  said (write_handshake timestamp ts k) out at = handshake_written timestamp ts k out at
  said (write_built c) out at = built_written c out at
  said (write_message w) out at = message_written network cap w out at

  unfoldable pub write_bytes : Write → List ℕ
  write_bytes (write_handshake timestamp ts k) = handshake_bytes (handshake_at_row timestamp ts k)
  write_bytes (write_built c) = handshake_bytes (built c)
  write_bytes (write_message w) = message_bytes network (Messages.value_of w)

-- the output, the place where the last accepted write ended, and the accepted writes, in order
pub record Done : Type 0 where
  pub out : List ℕ
  pub at : ℕ
  pub accepted : List Write

-- a refused write moves nothing
unfoldable pub after : Write → Written → List ℕ → ℕ → (List ℕ → ℕ → Done) → Done
after w (To end) out at next = record { out = (next out end).out; at = (next out end).at; accepted = w ∷ (next out end).accepted }
after w (Refused n) out at next = next out at

module _ (network : Network) (cap : ℕ) where
  -- each write gets the output as the last one left it, from where the last accepted one ended
  unfoldable pub write_all : List Write → List ℕ → ℕ → Done
  write_all [] out at = record { out = out; at = at; accepted = [] }
  write_all (w ∷ ws) out at =
      after w (said network cap w out at) (output_after (said network cap w out at) out at (write_bytes network cap w)) at (λ out at. write_all ws out at)

-- the session's bytes: the output up to the end of the last accepted write
unfoldable pub session_bytes : Done → List ℕ
session_bytes d = take d.at d.out

-- exactly one handshake is accepted, before any message is
unfoldable pub is_handshake : Write → Bool
is_handshake (write_handshake timestamp ts k) = true
is_handshake (write_built c) = true
is_handshake (write_message w) = false

pub data OnlyMessages : List Write → Type 0 where
  none : OnlyMessages []
  more : {w : Write} {ws : List Write} → is_handshake w ≡ false → OnlyMessages ws → OnlyMessages (w ∷ ws)

pub data HandshakeFirst : List Write → Type 0 where
  first : {w : Write} {ws : List Write} → is_handshake w ≡ true → OnlyMessages ws → HandshakeFirst (w ∷ ws)

-- the values of a reading's items, in order
unfoldable pub item_values : List (Item Content) → List Value
item_values is = map (λ (i : Item Content). fields_value i.holds.fields) is
