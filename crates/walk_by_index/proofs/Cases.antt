-- An entry, an id and a payload by index, of a body that does not start where the stream does.
use Rattle.std.specs.Prelude.{ℕ, List, [], ◌∷◌, ◌++◌, map, ◌≡◌, refl, replicate}
use Rattle.wire.specs.Reader.{Answer, got, refused, fold, list_of, map_answer}
use Rattle.vlq_utf8.specs.Utf8 as Utf8
use Rattle.vlq_utf8.specs.Utf8.{lead_in, lead_of, utf8_from, utf8}
use Rattle.vlq.specs.Vlq.{groups, vlq, vlq_length}
use Rattle.vlq.specs.ShortString.{string, short_string}
use Rattle.types.specs.Places.{located}
use Rattle.types.specs.declared.Address.TheVariants.{None}
use Rattle.types.specs.declared.StreamPlace.{StreamPlace}
use Rattle.frame_read.specs.declared.StreamPart.{StreamPart}
use Rattle.handshake.specs.Entry.{version, address_if, feature, entry}
use Rattle.messages.specs.Message.{count, inventory_header, total, payload_after, payload}
use Rattle.messages_inventory_read.specs.Parts.{items, items_start, item_by_index, item_at, id_at}
use Rattle.messages_response_read.specs.Parts.{payload_at}
use Rattle.messages_peers_read.specs.Parts.{entries, entries_start, entry_at}
use Rattle.walk_by_index.specs.InStream.{is_inside, in_stream, entry_to_stream, id_to_stream, payload_to_stream, from_body, entry_in_stream, id_in_stream, payload_in_stream}
use Rattle.walk_by_index.specs.declared.StreamEntry.{StreamEntry}
use Rattle.walk_by_index.specs.declared.StreamPayload.{StreamPayload}

-- what is computed, and what it is by hand
pub record Case (A : Type 0) : Type 0 where
  pub computed : Answer A
  pub is : Answer A

abbrev case : {A : Type 0} → Answer A → Answer A → Case A
case c i = record { computed = c; is = i }

abbrev Holds : {A : Type 0} → List (Case A) → Type 0
Holds {A} cases = map (λ (c : Case A). c.computed) cases ≡ map (λ (c : Case A). c.is) cases

abbrev place : ℕ → StreamPlace
place at = record { 0 = at }

abbrev at : ℕ → ℕ → StreamPart
at start len = record { start = place start; len = len }

-- five bytes, the body, and two bytes more
abbrev stream : List ℕ → List ℕ
stream body = 91 ∷ 92 ∷ 93 ∷ 94 ∷ 95 ∷ (body ++ (96 ∷ 97 ∷ []))

-- ---- entries

-- two entries of 8 and 15 bytes: agent, version, name, no address, and of the second a feature of 3 bytes
abbrev peers : List ℕ
peers =
    2
    ∷ 1 ∷ 0x61 ∷ 4 ∷ 0 ∷ 100 ∷ 0 ∷ 0 ∷ 0
    ∷ 2 ∷ 0x62 ∷ 0x63 ∷ 5 ∷ 6 ∷ 7 ∷ 1 ∷ 0x64 ∷ 0 ∷ 1 ∷ 8 ∷ 3 ∷ 31 ∷ 32 ∷ 33
    ∷ []

abbrev second : StreamEntry
second =
    record {
      agent = at 15 2;
      version = record { major = 5; minor = 6; patch = 7 };
      name = at 21 1;
      address = None;
      features = record { count = 1; start = place 24 };
    }

unfoldable pub entry_cases : List (Case StreamEntry)
entry_cases =
    case (entry_in_stream 64 1 (stream peers) (at 5 24)) (got second 29)
    -- the index, then the cap
    ∷ case (entry_in_stream 64 2 (stream peers) (at 5 24)) (refused 12)
    ∷ case (entry_in_stream 1 1 (stream peers) (at 5 24)) (refused 10)
    -- bytes left over, up to the stream's end; a body of no bytes there
    ∷ case (entry_in_stream 64 1 (stream peers) (at 5 26)) (got second 29)
    ∷ case (entry_in_stream 64 0 (stream peers) (at 31 0)) (refused 1)
    -- a body that ends before its entries do, one that ends past the stream, and one that starts there
    ∷ case (entry_in_stream 64 1 (stream peers) (at 5 23)) (refused 1)
    ∷ case (entry_in_stream 64 1 (stream peers) (at 5 27)) (refused 12)
    ∷ case (entry_in_stream 64 1 (stream peers) (at 32 0)) (refused 12)
    ∷ []

pub entry_cases_lem : Holds entry_cases
unfolding entry_cases entry_in_stream entry_to_stream from_body is_inside in_stream located map_answer entry_at entries entries_start item_by_index count fold list_of groups vlq vlq_length string short_string utf8_from utf8 lead_of lead_in Utf8.lead_rows version address_if feature entry
entry_cases_lem = refl

-- ---- ids and payloads

-- a type byte, two ids
abbrev ids : List ℕ
ids = 9 ∷ 2 ∷ (replicate 32 41 ++ replicate 32 42)

unfoldable pub id_cases : List (Case StreamPlace)
id_cases =
    case (id_in_stream 0 (stream ids) (at 5 66)) (got (place 7) 39)
    ∷ case (id_in_stream 1 (stream ids) (at 5 66)) (got (place 39) 71)
    ∷ case (id_in_stream 2 (stream ids) (at 5 66)) (refused 12)
    ∷ case (id_in_stream 1 (stream ids) (at 5 65)) (refused 1)
    ∷ case (id_in_stream 1 (stream ids) (at 5 69)) (refused 12)
    ∷ []

pub id_cases_lem : Holds id_cases
unfolding id_cases id_in_stream id_to_stream from_body is_inside in_stream located map_answer id_at item_at item_by_index items items_start inventory_header count fold list_of groups vlq vlq_length
id_cases_lem = refl

-- a type byte, two payloads: of no bytes, and of three
abbrev payloads : List ℕ
payloads = 9 ∷ 2 ∷ (replicate 32 51 ++ (0 ∷ (replicate 32 52 ++ (3 ∷ 61 ∷ 62 ∷ 63 ∷ []))))

unfoldable pub payload_cases : List (Case StreamPayload)
payload_cases =
    case (payload_in_stream 1 (stream payloads) (at 5 71)) (got (record { id = place 40; bytes = at 73 3 }) 76)
    ∷ case (payload_in_stream 2 (stream payloads) (at 5 71)) (refused 12)
    ∷ case (payload_in_stream 1 (stream payloads) (at 5 70)) (refused 1)
    ∷ case (payload_in_stream 1 (stream payloads) (at 5 74)) (refused 12)
    ∷ []

pub payload_cases_lem : Holds payload_cases
unfolding payload_cases payload_in_stream payload_to_stream from_body is_inside in_stream located map_answer payload_at item_at item_by_index items items_start inventory_header count total payload_after payload fold list_of groups vlq vlq_length
payload_cases_lem = refl
