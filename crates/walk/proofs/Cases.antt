-- Document 01, "At the edges" and "The session walk": the session of 20 bytes and its cut at every byte, both magics, steps at and past the length,
-- which numbers are cuts, the verdicts, and the session written. Each group is a table, and one lemma covers it.
use Rattle.std.specs.Prelude.{ℕ, ◌≡◌, refl, take, replicate}
use Rattle.std.proofs.Common.{arith}
use mathlib.Core.List.{List, [], ◌∷◌, ◌++◌, map, flat_map}
use Rattle.wire.specs.Bytes.{big_endian, big_endian_from, big_endian_bytes, same_bytes, every}
use Rattle.wire.specs.Output.{put, asked, written, output_after}
use Rattle.wire.specs.Reader.{got, fold, list_of}
use Rattle.vlq_utf8.specs.Utf8.{lead_rows, lead_in, lead_of, utf8_from, utf8}
use Rattle.vlq.specs.Vlq.{groups, vlq, vlq_length, vlq_in, vlq_bytes}
use Rattle.vlq.specs.ShortString.{string, short_string}
use Rattle.types.specs.Order.{then_by, below}
use Rattle.types.specs.declared.Address.TheVariants.{None}
use Rattle.types.specs.declared.Network.{Network}
use Rattle.types.specs.declared.Network.TheVariants.{Mainnet, Testnet}
use Rattle.address_sanity.specs.Ranges.{always_v4, always_v6, mainnet_v4, mainnet_v6}
use Rattle.address_sanity.specs.Bogus.{contains, some_contains, bogus}
use Rattle.handshake.specs.Tables as Tables
use Rattle.handshake.specs.Writes.{row_inside, handshake_written}
use Rattle.handshake.specs.Entry.{version, address_of, address, address_if, feature, entry, handshake}
use Rattle.handshake.specs.Value as Values
use Rattle.handshake.specs.Verdict.{first_feature, other_magic, validate_peer}
use Rattle.frame.specs.Frame.{header, body, frame, checked_bytes, frame_bytes}
use Rattle.messages.specs.Message.{get_peers, count, ids, peers_body, message}
use Rattle.messages.specs.Message.{inventory_header}
use Rattle.messages.specs.Value.{code_of, body_bytes, message_entries, payloads_within, count_within, unknown_code, code_free, message_asked}
use Rattle.messages.specs.Writes.{write_get_peers, write_unknown, value_of, message_whole, message_inside, message_written}
use Rattle.walk.specs.Walk as Walk
use Rattle.walk.specs.Walk.{Layer, Opened, opened, refused_in, Item, Step, item, clean_end, stop, outside, Ending, clean, stopped, Reading, is_cut, step_to, onward, step, walk_in, walk, reading}
use Rattle.walk.specs.CutRule.{end_by}
use Rattle.messages.specs.Bogus.{bogus_count}
use Rattle.messages.proofs.Cases.{among}
use Rattle.walk.specs.Session.{handshake_fields, message_fields, Verdict, peer_verdict, peers_verdict, no_verdict, Content, message_verdict, handshake_item, message_item, frame_item, handshake_at, message_at, session_step, session_reading}
use Rattle.walk.specs.WrittenSession as Writes
use Rattle.walk.specs.Calls.{Calls}
use Rattle.walk.proofs.CallsLaws.{write_all_calls}
use Rattle.walk.specs.WrittenSession.{bytes_typed, MessageTyped, Typed, AllTyped, is_handshake, HandshakeFirst, first, Write, write_handshake, write_message, said, write_bytes, after, write_all}

-- ---- the session of 20 bytes, cut at every byte

abbrev handshake_bytes : List ℕ
handshake_bytes = 0xac ∷ 0x02 ∷ 0x02 ∷ 0x61 ∷ 0x62 ∷ 0x06 ∷ 0x00 ∷ 0x01 ∷ 0x00 ∷ 0x00 ∷ 0x00 ∷ []

abbrev mainnet_get_peers : List ℕ
mainnet_get_peers = 0x01 ∷ 0x00 ∷ 0x02 ∷ 0x04 ∷ 0x01 ∷ 0x00 ∷ 0x00 ∷ 0x00 ∷ 0x00 ∷ []

abbrev testnet_get_peers : List ℕ
testnet_get_peers = 0x02 ∷ 0x03 ∷ 0x02 ∷ 0x03 ∷ 0x01 ∷ 0x00 ∷ 0x00 ∷ 0x00 ∷ 0x00 ∷ []

-- handshake 0 11 version 6.0.1 verdict 0
abbrev first_item : Item Content
first_item =
    record {
      start = 0;
      end = 11;
      holds = record {
        fields = handshake_fields (record {
          timestamp = 300;
          entry = record {
            agent = record { start = 3; bytes = 0x61 ∷ 0x62 ∷ [] };
            version = record { major = 6; minor = 0; patch = 1 };
            name = record { start = 9; bytes = [] };
            address = None;
            first = 11;
            features = [];
          };
        });
        verdict = peer_verdict 0;
      };
    }

-- message 11 20 code 1
abbrev second_item : Item Content
second_item = record { start = 11; end = 20; holds = record { fields = message_fields 1 20 get_peers; verdict = no_verdict } }

abbrev session : List ℕ
session = handshake_bytes ++ mainnet_get_peers

pub record Case : Type 0 where
  pub network : Network
  pub bytes : List ℕ
  pub items : List (Item Content)
  pub ending : Ending

abbrev case : Network → List ℕ → List (Item Content) → Ending → Case
case network bytes items ending = record { network = network; bytes = bytes; items = items; ending = ending }

-- the session cut at each of n places, the first of them at k
abbrev cut_at : ℕ → ℕ → List (Item Content) → Ending → List Case
cut_at k n items ending = Tables.rows (λ k. case Mainnet (take k session) items ending) k n

unfoldable pub cases : List Case
cases =
    cut_at 0 11 [] (stopped Walk.handshake 1 0)
    ++ (cut_at 11 1 (first_item ∷ []) clean
    ++ (cut_at 12 8 (first_item ∷ []) (stopped Walk.frame 5 11)
    ++ (cut_at 20 1 (first_item ∷ second_item ∷ []) clean
    -- the place of a stop is the item's start
    ++ (case Mainnet (session ++ (7 ∷ [])) (first_item ∷ second_item ∷ []) (stopped Walk.frame 5 20)
    -- both magics
    ∷ case Testnet (handshake_bytes ++ testnet_get_peers) (first_item ∷ second_item ∷ []) clean
    ∷ case Mainnet (handshake_bytes ++ testnet_get_peers) (first_item ∷ []) (stopped Walk.frame 6 11)
    ∷ case Testnet session (first_item ∷ []) (stopped Walk.frame 6 11)
    ∷ []))))

abbrev case_reading : Case → Reading Content
case_reading c = record { items = c.items; ending = c.ending }

pub all-cases : map (λ (c : Case). session_reading c.network 64 c.bytes) cases ≡ map case_reading cases
unfolding cases Tables.rows session_reading reading walk walk_in onward step step_to handshake_at message_at handshake_item frame_item message_item message_verdict validate_peer first_feature other_magic below then_by handshake entry version address_if short_string string utf8 utf8_from lead_of lead_in lead_rows vlq groups list_of fold frame header body big_endian big_endian_from same_bytes message
all-cases = refl

-- the items that end by a cut: an item's end is by itself
pub all-ends : map (λ (k : ℕ). end_by k (first_item ∷ second_item ∷ [])) (10 ∷ 11 ∷ 19 ∷ 20 ∷ [])
    ≡ [] ∷ (first_item ∷ []) ∷ (first_item ∷ []) ∷ (first_item ∷ second_item ∷ []) ∷ []
unfolding end_by
all-ends = refl

-- ---- steps: a place equal to the length, unless that is 0, and a place past it

pub record StepCase : Type 0 where
  pub bytes : List ℕ
  pub place : ℕ
  pub answer : Step Content

abbrev step_at : List ℕ → ℕ → Step Content → StepCase
step_at bytes place answer = record { bytes = bytes; place = place; answer = answer }

unfoldable pub steps : List StepCase
steps =
    step_at session 0 (item first_item)
    ∷ step_at session 11 (item second_item)
    ∷ step_at session 20 clean_end
    ∷ step_at session 21 outside
    ∷ step_at [] 0 (stop Walk.handshake 1 0)
    ∷ step_at [] 1 outside
    ∷ []

pub all-steps : map (λ (c : StepCase). session_step Mainnet 64 c.bytes c.place) steps ≡ map (λ (c : StepCase). c.answer) steps
unfolding steps session_step step step_to handshake_at message_at handshake_item frame_item message_item message_verdict validate_peer first_feature other_magic below then_by handshake entry version address_if short_string string utf8 utf8_from lead_of lead_in lead_rows vlq groups list_of fold frame header body big_endian big_endian_from same_bytes message
all-steps = refl

-- ---- of all the refusal numbers, those that are cuts in each layer

pub all-numbers : map (λ (layer : Layer). among (is_cut layer) (Tables.rows (λ n. n) 0 17)) (Walk.handshake ∷ Walk.frame ∷ Walk.body ∷ [])
    ≡ (1 ∷ []) ∷ (5 ∷ 8 ∷ []) ∷ [] ∷ []
unfolding among Tables.rows is_cut
all-numbers = refl

-- ---- verdicts

-- what is opened, with the verdict alone
abbrev judged : Opened Content → Opened Verdict
judged (opened c e) = opened c.verdict e
judged (refused_in layer n) = refused_in layer n

pub record HandshakeCase : Type 0 where
  pub network : Network
  pub major : ℕ
  pub patch : ℕ
  pub magic : List ℕ
  pub verdict : ℕ

abbrev peer : Network → ℕ → ℕ → List ℕ → ℕ → HandshakeCase
peer network major patch magic verdict = record { network = network; major = major; patch = patch; magic = magic; verdict = verdict }

-- an empty agent and name, no address, and one feature 3 with the magic
abbrev with_magic : HandshakeCase → List ℕ
with_magic c = 0 ∷ 0 ∷ c.major ∷ 0 ∷ c.patch ∷ 0 ∷ 0 ∷ 1 ∷ 3 ∷ 4 ∷ c.magic

unfoldable pub peer_cases : List HandshakeCase
peer_cases =
    peer Mainnet 4 100 (1 ∷ 0 ∷ 2 ∷ 4 ∷ []) 0
    ∷ peer Mainnet 4 99 (1 ∷ 0 ∷ 2 ∷ 4 ∷ []) 1
    ∷ peer Mainnet 4 99 (2 ∷ 3 ∷ 2 ∷ 3 ∷ []) 1
    ∷ peer Mainnet 4 100 (2 ∷ 3 ∷ 2 ∷ 3 ∷ []) 2
    ∷ peer Testnet 4 100 (2 ∷ 3 ∷ 2 ∷ 3 ∷ []) 0
    ∷ peer Testnet 4 100 (1 ∷ 0 ∷ 2 ∷ 4 ∷ []) 2
    ∷ []

pub all-peers : map (λ (c : HandshakeCase). judged (handshake_at c.network (with_magic c))) peer_cases
    ≡ map (λ (c : HandshakeCase). opened (peer_verdict c.verdict) 14) peer_cases
unfolding peer_cases handshake_at handshake_item validate_peer first_feature other_magic below then_by handshake entry version address_if feature short_string string utf8 utf8_from vlq vlq_length groups list_of fold same_bytes
all-peers = refl

-- a frame with a body, of a code, that ends at 100: what it is opened to
pub record BodyCase : Type 0 where
  pub network : Network
  pub cap : ℕ
  pub code : ℕ
  pub body : List ℕ
  pub answer : Opened Verdict

abbrev in_body : Network → ℕ → ℕ → List ℕ → Opened Verdict → BodyCase
in_body network cap code body answer = record { network = network; cap = cap; code = code; body = body; answer = answer }

-- an entry of an empty agent and name, without features
abbrev entry_with : List ℕ → List ℕ
entry_with address = 0 ∷ 6 ∷ 0 ∷ 1 ∷ 0 ∷ (address ++ (0 ∷ []))

-- 127.0.0.1, 10.0.0.1 and 8.8.8.8, port 9030, and no address
abbrev four_peers : List ℕ
four_peers =
    4 ∷ (entry_with (1 ∷ 8 ∷ 127 ∷ 0 ∷ 0 ∷ 1 ∷ 0xc6 ∷ 0x46 ∷ [])
    ++ (entry_with (1 ∷ 8 ∷ 10 ∷ 0 ∷ 0 ∷ 1 ∷ 0xc6 ∷ 0x46 ∷ [])
    ++ (entry_with (1 ∷ 8 ∷ 8 ∷ 8 ∷ 8 ∷ 8 ∷ 0xc6 ∷ 0x46 ∷ [])
    ++ entry_with (0 ∷ []))))

-- the first and the last address of 3fff::/20 and their neighbours outside (document 02, §5)
abbrev documentation_peers : List ℕ
documentation_peers =
    4 ∷ (entry_with (1 ∷ 20 ∷ (0x3f ∷ 0xff ∷ (replicate 14 0 ++ (0xc6 ∷ 0x46 ∷ []))))
    ++ (entry_with (1 ∷ 20 ∷ (0x3f ∷ 0xff ∷ 0x0f ∷ (replicate 13 0xff ++ (0xc6 ∷ 0x46 ∷ []))))
    ++ (entry_with (1 ∷ 20 ∷ (0x3f ∷ 0xfe ∷ (replicate 14 0xff ++ (0xc6 ∷ 0x46 ∷ []))))
    ++ entry_with (1 ∷ 20 ∷ (0x3f ∷ 0xff ∷ 0x10 ∷ (replicate 13 0 ++ (0xc6 ∷ 0x46 ∷ [])))))))

unfoldable pub body_cases : List BodyCase
body_cases =
    in_body Mainnet 64 2 four_peers (opened (peers_verdict 4 2) 100)
    ∷ in_body Testnet 64 2 four_peers (opened (peers_verdict 4 1) 100)
    ∷ in_body Mainnet 64 2 documentation_peers (opened (peers_verdict 4 2) 100)
    ∷ in_body Testnet 64 2 documentation_peers (opened (peers_verdict 4 0) 100)
    ∷ in_body Mainnet 64 2 (0 ∷ []) (opened (peers_verdict 0 0) 100)
    ∷ in_body Mainnet 4 2 four_peers (opened (peers_verdict 4 2) 100)
    ∷ in_body Mainnet 3 2 four_peers (refused_in Walk.body 10)
    -- a truncated body
    ∷ in_body Mainnet 64 55 (2 ∷ 0x90 ∷ 0x03 ∷ []) (refused_in Walk.body 1)
    ∷ in_body Mainnet 64 55 (2 ∷ 0 ∷ []) (opened no_verdict 100)
    ∷ in_body Mainnet 64 1 (7 ∷ []) (opened no_verdict 100)
    ∷ []

pub all-bodies : map (λ (c : BodyCase). judged (frame_item c.network c.cap (got (record { code = c.code; body = record { start = 24; bytes = c.body } }) 100))) body_cases
    ≡ map (λ (c : BodyCase). c.answer) body_cases
unfolding body_cases frame_item message_item message_verdict bogus_count bogus some_contains contains always_v4 always_v6 mainnet_v4 mainnet_v6 message peers_body ids inventory_header count entry version address_if address address_of short_string string utf8 utf8_from vlq vlq_length groups list_of fold big_endian big_endian_from
all-bodies = refl

-- ---- the session of 20 bytes, written into 23

-- one entry, without features
abbrev one_entry : Tables.Tables
one_entry = Tables.tables (0 ∷ 2 ∷ 6 ∷ 0 ∷ 1 ∷ 2 ∷ 0 ∷ 0 ∷ 0 ∷ 0 ∷ 0 ∷ 0 ∷ []) [] (0x61 ∷ 0x62 ∷ [])

-- the first, third and fifth are refused: 15, 12 and 14
abbrev five_writes : List Write
five_writes =
    write_message (write_unknown 22 [])
    ∷ write_handshake 300 one_entry 0
    ∷ write_handshake 300 one_entry 1
    ∷ write_message write_get_peers
    ∷ write_message write_get_peers
    ∷ []

pub all-writes : write_all Mainnet 64 five_writes (replicate 23 7) 0
    ≡ record { out = session ++ (7 ∷ 7 ∷ 7 ∷ []); at = 20; accepted = write_handshake 300 one_entry 0 ∷ write_message write_get_peers ∷ [] }
unfolding write_all said write_bytes after handshake_written message_written written output_after asked put message_whole message_inside value_of message_asked message_entries payloads_within count_within body_bytes code_of code_free unknown_code frame_bytes checked_bytes big_endian_bytes every Values.entries_asked Values.short_strings Values.utf8_strings Values.few_features Values.lengths_within Values.handshake_bytes Values.entry_bytes Values.version_bytes Values.address_bytes Values.feature_bytes vlq_bytes vlq_in utf8 utf8_from lead_of lead_in lead_rows row_inside Tables.tables_whole Tables.whole_rows Tables.rows Tables.entry_numbers Tables.feature_numbers Tables.entry_inside Tables.inside Tables.feature_inside Tables.entry_from_row Tables.feature_from_row address_of flat_map
all-writes = refl

-- so that the theorem on written sessions speaks of calls of these writes
pub five-proper : Calls Mainnet 64 five_writes (replicate 23 7) 0 (write_all Mainnet 64 five_writes (replicate 23 7) 0)
    × HandshakeFirst (write_all Mainnet 64 five_writes (replicate 23 7) 0).accepted
unfolding Typed MessageTyped bytes_typed every is_handshake
five-proper =
    let one : Typed (write_handshake 300 one_entry 0) = (omega arith, refl) in
    let two : Typed (write_handshake 300 one_entry 1) = (omega arith, refl) in
    let all : AllTyped five_writes = Writes.more tt (Writes.more one (Writes.more two (Writes.more tt (Writes.more tt Writes.none)))) in
    (write_all_calls Mainnet 64 all (replicate 23 7) 0, rw all-writes (first refl (Writes.more refl Writes.none)))
