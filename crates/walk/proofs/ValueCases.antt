-- The values of both handshakes and all seven messages at the extremes of their types, written out: what each write has by its arguments, and what a
-- reading of its bytes says. One list, and two lemmas cover it.
use Rattle.std.specs.Prelude.{ℕ, true, ◌≡◌, refl, negsuc, replicate}
use mathlib.Core.List.{List, [], ◌∷◌, ◌++◌, map, flat_map}
use Rattle.wire.specs.Bytes.{big_endian, big_endian_from}
use Rattle.wire.specs.Reader.{got, fold, list_of}
use Rattle.vlq_utf8.specs.Utf8.{lead_rows, lead_in, lead_of, utf8_from, utf8}
use Rattle.vlq.specs.Vlq.{groups, vlq, vlq_length, vlq_in, vlq_bytes}
use Rattle.vlq.specs.ShortString.{string, short_string}
use Rattle.vlq_zigzag.specs.Zigzag.{zigzag_encode}
use Rattle.types.specs.declared.Address.TheVariants.{V4, V6}
use Rattle.types.specs.declared.Network.TheVariants.{Mainnet}
use Rattle.types.specs.declared.ProxyMode.TheVariants.{Light}
use Rattle.types.specs.declared.Version.{Version}
use Rattle.handshake.specs.Entry.{version, address_of, address, address_if, feature, entry, handshake}
use Rattle.handshake.specs.Tables as Tables
use Rattle.handshake.specs.Tables.{Tables, tables}
use Rattle.handshake.specs.Value.{EntryValue, feature_value, entry_value, handshake_value}
use Rattle.handshake.specs.Writes.{Config, nipopow, mode_feature, session_feature, built}
use Rattle.messages.specs.Message.{count, inventory_header, ids, total, payload_after, payload, payloads, peers_body, whole_body, message}
use Rattle.messages.specs.Value.{get_peers_value, peers_value, modifier_request_value, modifier_response_value, inv_value, sync_info_value, unknown_value, payload_value, message_value}
use Rattle.messages.specs.Writes.{ids_of, payload_from_row, write_get_peers, write_peers, write_modifier_request, write_modifier_response, write_inv, write_sync_info, write_unknown, value_of}
use Rattle.walk.specs.Walk.{Opened, opened, refused_in}
use Rattle.walk.specs.Session.{Content, handshake_item, message_item, frame_item, handshake_at}
use Rattle.walk.specs.WrittenSession.{Write, write_handshake, write_built, write_message, Value, session_handshake, session_message, write_value, fields_value}

-- ---- numbers and bytes at the end of their ranges

-- 2^64 - 1, 2^32 - 1 and 2^16 - 1
abbrev max_u64 : ℕ
max_u64 = 18446744073709551615

abbrev max_u32 : ℕ
max_u32 = 4294967295

abbrev max_u16 : ℕ
max_u16 = 65535

-- U+10FFFF
abbrev last_char : List ℕ
last_char = 0xf4 ∷ 0x8f ∷ 0xbf ∷ 0xbf ∷ []

abbrev ones : ℕ → List ℕ
ones n = replicate n 255

-- the VLQs of the three numbers
abbrev vlq_u64 : List ℕ
vlq_u64 = ones 9 ++ (1 ∷ [])

abbrev vlq_u32 : List ℕ
vlq_u32 = ones 4 ++ (0x0f ∷ [])

abbrev vlq_u16 : List ℕ
vlq_u16 = ones 2 ++ (0x03 ∷ [])

-- "ab", "cde" and "fghijkl"
abbrev ab : List ℕ
ab = 0x61 ∷ 0x62 ∷ []

abbrev cde : List ℕ
cde = 0x63 ∷ 0x64 ∷ 0x65 ∷ []

abbrev fghijkl : List ℕ
fghijkl = 0x66 ∷ 0x67 ∷ 0x68 ∷ 0x69 ∷ 0x6a ∷ 0x6b ∷ 0x6c ∷ []

-- ---- two entries: by their tables, by value, and their bytes. The numbers of a row are all different, so that no column stands for another

abbrev row0 : List ℕ
row0 = 3 ∷ 4 ∷ 253 ∷ 254 ∷ 255 ∷ 7 ∷ 2 ∷ 20 ∷ 9 ∷ max_u16 ∷ 0 ∷ 1 ∷ []

abbrev row1 : List ℕ
row1 = 45 ∷ 3 ∷ 4 ∷ 5 ∷ 6 ∷ 48 ∷ 7 ∷ 8 ∷ 41 ∷ 513 ∷ 1 ∷ 2 ∷ []

abbrev both_entries : Tables
both_entries =
    tables (row0 ++ row1)
    (255 ∷ 9 ∷ 2 ∷ 17 ∷ 41 ∷ 3 ∷ 0 ∷ 45 ∷ 4 ∷ [])
    (ones 3 ++ (last_char ++ (ab ++ (ones 32 ++ (1 ∷ 2 ∷ 3 ∷ 4 ∷ (cde ++ (fghijkl ++ (255 ∷ []))))))))

-- the 32 bytes of the buffer from 23 on; from 9 on they are all 255
abbrev last_id : List ℕ
last_id = ones 18 ++ (1 ∷ 2 ∷ 3 ∷ 4 ∷ (cde ++ fghijkl))

abbrev entry0 : EntryValue
entry0 =
    record {
      agent = last_char;
      version = record { major = 253; minor = 254; patch = 255 };
      name = ab;
      address = V6 max_u64 max_u64 max_u16;
      features = record { id = 255; body = ones 2 } ∷ [];
    }

abbrev entry1 : EntryValue
entry1 =
    record {
      agent = cde;
      version = record { major = 4; minor = 5; patch = 6 };
      name = fghijkl;
      address = V4 0x01020304 513;
      features = record { id = 17; body = 1 ∷ 2 ∷ 3 ∷ [] } ∷ record { id = 0; body = cde ++ (0x66 ∷ []) } ∷ [];
    }

abbrev bytes0 : List ℕ
bytes0 = 4 ∷ (last_char ++ (253 ∷ 254 ∷ 255 ∷ 2 ∷ (ab ++ (1 ∷ 20 ∷ (ones 16 ++ (vlq_u16 ++ (1 ∷ 255 ∷ 2 ∷ ones 2)))))))

abbrev bytes1 : List ℕ
bytes1 =
    3 ∷ (cde ++ (4 ∷ 5 ∷ 6 ∷ 7 ∷ (fghijkl ++ (1 ∷ 8 ∷ 1 ∷ 2 ∷ 3 ∷ 4 ∷ 0x81 ∷ 4 ∷ 2 ∷ 17 ∷ 3 ∷ 1 ∷ 2 ∷ 3 ∷ 0 ∷ 4 ∷ (cde ++ (0x66 ∷ []))))))

-- ---- what `build` is given: Light, -2^31 blocks to keep, the session id -2^63

abbrev built_version : Version
built_version = record { major = 255; minor = 254; patch = 253 }

abbrev config : Config
config =
    record {
      network = Mainnet;
      mode = Light;
      state_type = 255;
      verifying = true;
      blocks_to_keep = negsuc 2147483647;
      agent = last_char;
      version = built_version;
      name = ab;
      address = V4 max_u32 max_u16;
      timestamp = max_u64;
      session_id = negsuc 9223372036854775807;
    }

abbrev mode_body : List ℕ
mode_body = 255 ∷ 1 ∷ 1 ∷ 2 ∷ vlq_u32

abbrev session_body : List ℕ
session_body = 1 ∷ 0 ∷ 2 ∷ 4 ∷ vlq_u64

abbrev built_entry : EntryValue
built_entry =
    record {
      agent = last_char;
      version = built_version;
      name = ab;
      address = V4 max_u32 max_u16;
      features = record { id = 16; body = mode_body } ∷ record { id = 3; body = session_body } ∷ [];
    }

abbrev built_bytes : List ℕ
built_bytes =
    4 ∷ (last_char ++ (255 ∷ 254 ∷ 253 ∷ 2 ∷ (ab ++ (1 ∷ 8 ∷ (ones 4 ++ (vlq_u16 ++ (2 ∷ 16 ∷ 9 ∷ (mode_body ++ (3 ∷ 14 ∷ session_body)))))))))

-- ---- a write, its value, and its bytes as they are opened

pub record Case : Type 0 where
  pub write : Write
  pub value : Value
  pub item : Opened Content

abbrev of_handshake : Write → EntryValue → List ℕ → Case
of_handshake write entry bytes =
    record { write = write; value = session_handshake (record { timestamp = max_u64; entry = entry }); item = handshake_at Mainnet (vlq_u64 ++ bytes) }

-- a frame of a code with a body
abbrev of_message : Write → Value → ℕ → List ℕ → Case
of_message write value code body =
    record { write = write; value = value; item = frame_item Mainnet 64 (got (record { code = code; body = record { start = 24; bytes = body } }) 100) }

unfoldable pub cases : List Case
cases =
    of_handshake (write_handshake max_u64 both_entries 1) entry1 bytes1
    ∷ of_handshake (write_built config) built_entry built_bytes
    ∷ of_message (write_message write_get_peers) (session_message get_peers_value) 1 []
    ∷ of_message (write_message (write_peers both_entries)) (session_message (peers_value (entry0 ∷ entry1 ∷ []))) 2 (2 ∷ (bytes0 ++ bytes1))
    ∷ of_message (write_message (write_modifier_request 255 (9 ∷ 23 ∷ []) both_entries.buffer)) (session_message (modifier_request_value 255 (ones 32 ∷ last_id ∷ []))) 22
    (255 ∷ 2 ∷ (ones 32 ++ last_id))
    ∷ of_message (write_message (write_modifier_response 255 (9 ∷ 3 ∷ 6 ∷ 23 ∷ 45 ∷ 2 ∷ []) both_entries.buffer))
    (session_message (modifier_response_value 255 (record { id = ones 32; body = last_char ++ ab } ∷ record { id = last_id; body = 0x63 ∷ 0x64 ∷ [] } ∷ []))) 33
    (255 ∷ 2 ∷ (ones 32 ++ (6 ∷ (last_char ++ (ab ++ (last_id ++ (2 ∷ 0x63 ∷ 0x64 ∷ [])))))))
    ∷ of_message (write_message (write_inv 255 (23 ∷ 9 ∷ []) both_entries.buffer)) (session_message (inv_value 255 (last_id ∷ ones 32 ∷ []))) 55
    (255 ∷ 2 ∷ (last_id ++ ones 32))
    ∷ of_message (write_message (write_sync_info (ones 3))) (session_message (sync_info_value (ones 3))) 65 (ones 3)
    ∷ of_message (write_message (write_unknown 255 (ones 3))) (session_message (unknown_value 255 (ones 3))) 255 (ones 3)
    ∷ []

pub all-written : map (λ (c : Case). write_value c.write) cases ≡ map (λ (c : Case). c.value) cases
unfolding cases write_value built mode_feature session_feature nipopow zigzag_encode vlq_bytes vlq_in value_of ids_of payload_from_row Tables.rows Tables.entries_of Tables.entry_from_row Tables.feature_from_row address_of big_endian big_endian_from
all-written = refl

-- the value of an item, if it is one
abbrev item_value : Opened Content → List Value
item_value (opened c end) = fields_value c.fields ∷ []
item_value (refused_in layer n) = []

pub all_read : flat_map (λ (c : Case). item_value c.item) cases ≡ map (λ (c : Case). c.value) cases
unfolding cases fields_value flat_map handshake_at handshake_item frame_item message_item handshake entry version address_if address address_of feature short_string string utf8 utf8_from lead_of lead_in lead_rows vlq vlq_length groups list_of fold big_endian big_endian_from message count inventory_header ids total payload_after payload payloads peers_body whole_body feature_value entry_value handshake_value payload_value message_value
all_read = refl
