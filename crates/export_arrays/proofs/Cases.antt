-- Each array, of a record whose every number is another: the row as rust/include/haspeljo.h lists it, written out.
use Rattle.std.specs.Prelude.{ℕ, suc, List, [], ◌∷◌, map, ◌≡◌, refl, Some, None as no_value}
use Rattle.wire.specs.declared.Part.{Part}
use Rattle.types.specs.declared.Network.TheVariants.{Mainnet, Testnet}
use Rattle.types.specs.declared.Address.{Address}
use Rattle.types.specs.declared.Address.TheVariants.{None, V4, V6}
use Rattle.types.specs.declared.BodyPlace.{BodyPlace}
use Rattle.types.specs.declared.StreamPlace.{StreamPlace}
use Rattle.handshake_read.specs.declared.PeerSpec.{PeerSpec}
use Rattle.handshake_read.specs.declared.Handshake.{Handshake}
use Rattle.messages_inventory_read.specs.declared.Inventory.{Inventory}
use Rattle.messages_response_read.specs.declared.Payload.{Payload}
use Rattle.messages_peers_read.specs.declared.Peers.{Peers}
use Rattle.messages_read.specs.declared.Message.{Message}
use Rattle.messages_read.specs.declared.Message.TheVariants as Messages
use Rattle.walk_read.specs.declared.Layer.{Layer}
use Rattle.walk_read.specs.declared.Layer.TheVariants as Layers
use Rattle.walk_read.specs.declared.StepRead.{StepRead}
use Rattle.walk_read.specs.declared.StepRead.TheVariants as StepReads
use Rattle.walk_by_index.specs.declared.StreamEntry.{StreamEntry}
use Rattle.walk_by_index.specs.declared.StreamPayload.{StreamPayload}
use Rattle.export_arrays.specs.Networks.{network_of}
use Rattle.export_arrays.specs.Entries.{with_address, handshake_next, entry_next, stream_entry_next, feature_next, size_only, url_next}
use Rattle.export_arrays.specs.Messages.{message_numbers, id_only, payload_next, payload_total, stream_id_only, stream_payload_next}
use Rattle.export_arrays.specs.Steps.{with_message, layer_number, step_number, step_after}

-- what is given, and the row that it must be
pub record Case : Type 0 where
  pub given : List ℕ
  pub row : List ℕ

abbrev case : List ℕ → List ℕ → Case
case given row = record { given = given; row = row }

abbrev Holds : List Case → Type 0
Holds cases = map (λ (c : Case). c.given) cases ≡ map (λ (c : Case). c.row) cases

abbrev part : ℕ → ℕ → Part
part start len = record { start = start; len = len }

abbrev in_body : ℕ → BodyPlace
in_body at = record { 0 = at }

abbrev in_stream : ℕ → StreamPlace
in_stream at = record { 0 = at }

abbrev peer_at : Address → PeerSpec
peer_at address =
    record {
      agent = part 12 13;
      version = record { major = 14; minor = 15; patch = 16 };
      name = part 17 18;
      address = address;
      features = record { count = 19; start = 20 };
    }

abbrev stream_entry : StreamEntry
stream_entry =
    record {
      agent = record { start = in_stream 12; len = 13 };
      version = record { major = 14; minor = 15; patch = 16 };
      name = record { start = in_stream 17; len = 18 };
      address = V6 21 22 23;
      features = record { count = 19; start = in_stream 20 };
    }

abbrev handshake_at : Address → Handshake
handshake_at address = record { timestamp = 11; peer = peer_at address }

-- timestamp; agent's place and length; major, minor, patch; name's place and length; the kind of address, its number,
-- the low half, port; how many features, the place of the first; the next place
unfoldable pub entry_cases : List Case
entry_cases =
    case (handshake_next (handshake_at None) 31) (11 ∷ 12 ∷ 13 ∷ 14 ∷ 15 ∷ 16 ∷ 17 ∷ 18 ∷ 0 ∷ 0 ∷ 0 ∷ 0 ∷ 19 ∷ 20 ∷ 31 ∷ [])
    ∷ case
    (handshake_next (handshake_at (V4 21 22)) 31)
    (11 ∷ 12 ∷ 13 ∷ 14 ∷ 15 ∷ 16 ∷ 17 ∷ 18 ∷ 4 ∷ 21 ∷ 0 ∷ 22 ∷ 19 ∷ 20 ∷ 31 ∷ [])
    ∷ case
    (handshake_next (handshake_at (V6 21 22 23)) 31)
    (11 ∷ 12 ∷ 13 ∷ 14 ∷ 15 ∷ 16 ∷ 17 ∷ 18 ∷ 6 ∷ 21 ∷ 22 ∷ 23 ∷ 19 ∷ 20 ∷ 31 ∷ [])
    -- an entry has no timestamp
    ∷ case
    (entry_next (peer_at (V6 21 22 23)) 31)
    (0 ∷ 12 ∷ 13 ∷ 14 ∷ 15 ∷ 16 ∷ 17 ∷ 18 ∷ 6 ∷ 21 ∷ 22 ∷ 23 ∷ 19 ∷ 20 ∷ 31 ∷ [])
    ∷ case
    (stream_entry_next stream_entry 31)
    (0 ∷ 12 ∷ 13 ∷ 14 ∷ 15 ∷ 16 ∷ 17 ∷ 18 ∷ 6 ∷ 21 ∷ 22 ∷ 23 ∷ 19 ∷ 20 ∷ 31 ∷ [])
    -- a size
    ∷ case (size_only 11 31) (11 ∷ [])
    -- a feature: its id, its body's place and length, the next place
    ∷ case (feature_next (record { id = 11; body = part 12 13 }) 31) (11 ∷ 12 ∷ 13 ∷ 31 ∷ [])
    -- a URL: 1, its place and length, or three zeros; the next place
    ∷ case (url_next (Some (part 11 12)) 31) (1 ∷ 11 ∷ 12 ∷ 31 ∷ [])
    ∷ case (url_next no_value 31) (0 ∷ 0 ∷ 0 ∷ 31 ∷ [])
    ∷ []

pub entry_cases_lem : Holds entry_cases
unfolding entry_cases with_address url_next
entry_cases_lem = refl

abbrev peers : Peers
peers = record { count = 12; bogus = 13; start = in_body 14 }

abbrev inventory : Inventory
inventory = record { modifier_type = 11; count = 12; start = in_body 14 }

abbrev payload : Payload
payload = record { id = in_body 11; start = in_body 12; len = 13 }

abbrev stream_payload : StreamPayload
stream_payload = record { id = in_stream 11; bytes = record { start = in_stream 12; len = 13 } }

-- type byte, count, bogus count, the place of the first, each 0 where the message has none; the next place
unfoldable pub message_cases : List Case
message_cases =
    case (message_numbers Messages.GetPeers 31) (0 ∷ 0 ∷ 0 ∷ 0 ∷ 31 ∷ [])
    ∷ case (message_numbers (Messages.Peers peers) 31) (0 ∷ 12 ∷ 13 ∷ 14 ∷ 31 ∷ [])
    ∷ case (message_numbers (Messages.ModifierRequest inventory) 31) (11 ∷ 12 ∷ 0 ∷ 14 ∷ 31 ∷ [])
    ∷ case (message_numbers (Messages.ModifierResponse inventory) 31) (11 ∷ 12 ∷ 0 ∷ 14 ∷ 31 ∷ [])
    ∷ case (message_numbers (Messages.Inv inventory) 31) (11 ∷ 12 ∷ 0 ∷ 14 ∷ 31 ∷ [])
    ∷ case (message_numbers Messages.SyncInfo 31) (0 ∷ 0 ∷ 0 ∷ 0 ∷ 31 ∷ [])
    ∷ case (message_numbers Messages.Unknown 31) (0 ∷ 0 ∷ 0 ∷ 0 ∷ 31 ∷ [])
    -- an id's place
    ∷ case (id_only 11 31) (11 ∷ [])
    -- a payload: its id's place, its bytes' place and length, the next place; then the total with it
    ∷ case (payload_next payload 31) (11 ∷ 12 ∷ 13 ∷ 31 ∷ [])
    ∷ case (stream_id_only (in_stream 11) 31) (11 ∷ [])
    ∷ case (stream_payload_next stream_payload 31) (11 ∷ 12 ∷ 13 ∷ 31 ∷ [])
    ∷ case (payload_total (payload, 14) 31) (11 ∷ 12 ∷ 13 ∷ 31 ∷ 14 ∷ [])
    ∷ []

pub message_cases_lem : Holds message_cases
unfolding message_cases message_numbers
message_cases_lem = refl

abbrev handshake_item : StepRead
handshake_item =
    StepReads.Handshake (record { start = in_stream 41; end = in_stream 42; handshake = handshake_at (V6 21 22 23); verdict = 43 })

abbrev message_item : Message → StepRead
message_item message =
    StepReads.Message (record {
      start = in_stream 41;
      end = in_stream 42;
      code = 43;
      body = record { start = in_stream 44; len = 45 };
      message = message;
    })

abbrev stop_at : Layer → StepRead
stop_at layer = StepReads.Stop (record { layer = layer; number = 42; start = in_stream 41 })

-- the array before the step
abbrev before : List ℕ
before = 51 ∷ 52 ∷ 53 ∷ 54 ∷ 55 ∷ 56 ∷ 57 ∷ 58 ∷ 59 ∷ 60 ∷ 61 ∷ []

abbrev after : StepRead → List ℕ
after step = step_after step before

unfoldable pub step_cases : List Case
step_cases =
    -- 1, start, end, verdict, seven zeros
    case (after handshake_item) (1 ∷ 41 ∷ 42 ∷ 43 ∷ 0 ∷ 0 ∷ 0 ∷ 0 ∷ 0 ∷ 0 ∷ 0 ∷ [])
    -- 2, start, end, code, body's place and length, type byte, count, bogus count, place of the first, a zero
    ∷ case (after (message_item Messages.GetPeers)) (2 ∷ 41 ∷ 42 ∷ 43 ∷ 44 ∷ 45 ∷ 0 ∷ 0 ∷ 0 ∷ 0 ∷ 0 ∷ [])
    ∷ case (after (message_item (Messages.Peers peers))) (2 ∷ 41 ∷ 42 ∷ 43 ∷ 44 ∷ 45 ∷ 0 ∷ 12 ∷ 13 ∷ 14 ∷ 0 ∷ [])
    ∷ case
    (after (message_item (Messages.ModifierRequest inventory)))
    (2 ∷ 41 ∷ 42 ∷ 43 ∷ 44 ∷ 45 ∷ 11 ∷ 12 ∷ 0 ∷ 14 ∷ 0 ∷ [])
    ∷ case
    (after (message_item (Messages.ModifierResponse inventory)))
    (2 ∷ 41 ∷ 42 ∷ 43 ∷ 44 ∷ 45 ∷ 11 ∷ 12 ∷ 0 ∷ 14 ∷ 0 ∷ [])
    ∷ case (after (message_item (Messages.Inv inventory))) (2 ∷ 41 ∷ 42 ∷ 43 ∷ 44 ∷ 45 ∷ 11 ∷ 12 ∷ 0 ∷ 14 ∷ 0 ∷ [])
    ∷ case (after (message_item Messages.SyncInfo)) (2 ∷ 41 ∷ 42 ∷ 43 ∷ 44 ∷ 45 ∷ 0 ∷ 0 ∷ 0 ∷ 0 ∷ 0 ∷ [])
    ∷ case (after (message_item Messages.Unknown)) (2 ∷ 41 ∷ 42 ∷ 43 ∷ 44 ∷ 45 ∷ 0 ∷ 0 ∷ 0 ∷ 0 ∷ 0 ∷ [])
    -- eleven zeros
    ∷ case (after StepReads.End) (0 ∷ 0 ∷ 0 ∷ 0 ∷ 0 ∷ 0 ∷ 0 ∷ 0 ∷ 0 ∷ 0 ∷ 0 ∷ [])
    -- 3, start, layer, refusal number, seven zeros
    ∷ case (after (stop_at Layers.Handshake)) (3 ∷ 41 ∷ 1 ∷ 42 ∷ 0 ∷ 0 ∷ 0 ∷ 0 ∷ 0 ∷ 0 ∷ 0 ∷ [])
    ∷ case (after (stop_at Layers.Frame)) (3 ∷ 41 ∷ 2 ∷ 42 ∷ 0 ∷ 0 ∷ 0 ∷ 0 ∷ 0 ∷ 0 ∷ 0 ∷ [])
    ∷ case (after (stop_at Layers.Body)) (3 ∷ 41 ∷ 3 ∷ 42 ∷ 0 ∷ 0 ∷ 0 ∷ 0 ∷ 0 ∷ 0 ∷ 0 ∷ [])
    -- the array as it was
    ∷ case (after StepReads.Outside) (51 ∷ 52 ∷ 53 ∷ 54 ∷ 55 ∷ 56 ∷ 57 ∷ 58 ∷ 59 ∷ 60 ∷ 61 ∷ [])
    ∷ []

pub step_cases_lem : Holds step_cases
unfolding step_cases step_after with_message layer_number
step_cases_lem = refl

abbrev steps : List StepRead
steps = handshake_item ∷ message_item (Messages.Peers peers) ∷ StepReads.End ∷ stop_at Layers.Frame ∷ StepReads.Outside ∷ []

pub step-numbers : map step_number steps ≡ (0 ∷ 0 ∷ 0 ∷ 0 ∷ 12 ∷ [])
unfolding step_number
step-numbers = refl

-- 0 for testnet, any other number for mainnet
pub networks : (network_of 0 ≡ Testnet) × ((n : ℕ) → network_of (suc n) ≡ Mainnet)
unfolding network_of
networks = (refl, λ n. refl)
