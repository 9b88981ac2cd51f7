-- The writes of entries, handshakes and `build` at the edges of their questions (document 01, "Questions", Writers),
-- computed from the definitions: two neighbouring questions answered "no" at once, an earlier question at a later value,
-- and both sides of each limit. Features as long as the limit are given by their length alone, since counting them would
-- take the prover too long. The order as a whole stands in `WriterOrder` (messages).
use Rattle.std.specs.Prelude.{ℕ, ◌-◌, ◌*◌, true, false, ◌≡◌, refl, pos, length, replicate}
use mathlib.Core.List.{List, [], ◌∷◌, ◌++◌, map, flat_map}
use Rattle.std.proofs.Common.{length-take}
use Rattle.wire.specs.Bytes.{big_endian_from, big_endian, big_endian_bytes, every}
use Rattle.wire.specs.Output.{asked, written, Written, To, Refused}
use Rattle.vlq_utf8.specs.Utf8 as Utf8
use Rattle.vlq_utf8.specs.Utf8.{lead_in, lead_of, utf8_from, utf8}
use Rattle.vlq.specs.Vlq.{vlq_in, vlq_bytes}
use Rattle.vlq_zigzag.specs.Zigzag.{zigzag_encode}
use Rattle.types.specs.declared.Network.TheVariants.{Mainnet}
use Rattle.types.specs.declared.ProxyMode.TheVariants.{Full}
use Rattle.types.specs.declared.Version.{Version}
use Rattle.types.specs.declared.Address.TheVariants.{None}
use Rattle.handshake.specs.Entry.{address_of}
use Rattle.handshake.specs.Value.{FeatureValue, EntryValue, address_bytes, feature_bytes, version_bytes, entry_bytes, handshake_bytes, short_strings, utf8_strings, few_features, lengths_within, entries_asked}
use Rattle.handshake.specs.Tables.{rows, Tables, tables, feature_from_row, entry_from_row, whole_rows, feature_numbers, entry_numbers, tables_whole, inside, feature_inside, entry_inside}
use Rattle.handshake.specs.Writes.{row_inside, entry_written, handshake_written, Config, nipopow, mode_feature, session_feature, built, built_written}

-- a write into an output of some length, from a place on
pub data Write : Type 0 where
  -- row 0 of a table, and the same with the timestamp 0
  an_entry a_handshake : Tables → ℕ → ℕ → Write
  a_build : Config → ℕ → ℕ → Write
  -- the questions of entries by value alone
  the_values : List EntryValue → Write

unfoldable pub said_of : Write → Written
said_of (an_entry l n at) = entry_written l 0 (replicate n 7) at
said_of (a_handshake l n at) = handshake_written 0 l 0 (replicate n 7) at
said_of (a_build c n at) = built_written c (replicate n 7) at
said_of (the_values es) = asked (entries_asked es) (To 0)

pub record Case : Type 0 where
  pub write : Write
  pub says : Written

abbrev case : Write → Written → Case
case w s = record { write = w; says = s }

-- n bytes of UTF-8, and n bytes that are none
abbrev good : ℕ → List ℕ
good n = replicate n 0x61

abbrev bad : ℕ → List ℕ
bad n = replicate n 0xff

-- a row: the lengths of agent and name, both from the buffer's start on; the port; how many feature rows, from the first
abbrev row : ℕ → ℕ → ℕ → ℕ → List ℕ
row agent name port features = 0 ∷ agent ∷ 6 ∷ 0 ∷ 1 ∷ 0 ∷ name ∷ 0 ∷ 0 ∷ port ∷ 0 ∷ features ∷ []

-- a row with this version, and one with this address length
abbrev of_version : ℕ → ℕ → ℕ → List ℕ
of_version major minor patch = 0 ∷ 0 ∷ major ∷ minor ∷ patch ∷ 0 ∷ 0 ∷ 0 ∷ 0 ∷ 0 ∷ 0 ∷ 0 ∷ []

abbrev of_length : ℕ → List ℕ
of_length l = 0 ∷ 0 ∷ 6 ∷ 0 ∷ 1 ∷ 0 ∷ 0 ∷ l ∷ 0 ∷ 0 ∷ 0 ∷ 0 ∷ []

-- a row without address, with this address place; and one without features, with this first feature row
abbrev of_place : ℕ → List ℕ
of_place at = 0 ∷ 0 ∷ 6 ∷ 0 ∷ 1 ∷ 0 ∷ 0 ∷ 0 ∷ at ∷ 0 ∷ 0 ∷ 0 ∷ []

abbrev of_first : ℕ → List ℕ
of_first first = 0 ∷ 0 ∷ 6 ∷ 0 ∷ 1 ∷ 0 ∷ 0 ∷ 0 ∷ 0 ∷ 0 ∷ first ∷ 0 ∷ []

-- n feature rows of id, place and length 0
abbrev empty : ℕ → List ℕ
empty n = replicate (3 * n) 0

abbrev v601 : Version
v601 = record { major = 6; minor = 0; patch = 1 }

abbrev config : List ℕ → List ℕ → Config
config agent name =
    record {
      network = Mainnet;
      mode = Full;
      state_type = 0;
      verifying = true;
      blocks_to_keep = pos 0;
      agent = agent;
      version = v601;
      name = name;
      address = None;
      timestamp = 0;
      session_id = pos 0;
    }

abbrev feature : List ℕ → FeatureValue
feature body = record { id = 0; body = body }

-- agent, name, number of features
abbrev entry_with : List ℕ → List ℕ → ℕ → EntryValue
entry_with agent name n = record { agent = agent; version = v601; name = name; address = None; features = replicate n (feature []) }

-- ---- the order

-- two neighbouring questions answered "no"; each line puts the first of the line before it right
abbrev in_order : (Tables → ℕ → ℕ → Write) → List Case
in_order w =
    case (w (tables (row 0 0 65536 0) [] []) 0 1) (Refused 16)
    ∷ case (w (tables (row 1 0 0 0) [] []) 0 1) (Refused 12)
    ∷ case (w (tables (row 257 0 0 0) [] (bad 256)) 0 0) (Refused 12)
    ∷ case (w (tables (row 256 0 0 0) [] (bad 256)) 0 0) (Refused 13)
    ∷ case (w (tables (row 255 0 0 256) (empty 256) (bad 255)) 0 0) (Refused 4)
    ∷ case (w (tables (row 255 0 0 256) (empty 256) (good 255)) 0 0) (Refused 15)
    ∷ case (w (tables (row 255 0 0 0) [] (good 255)) 0 0) (Refused 14)
    -- 16 of a row that is not written and of a feature that is in no entry, before 12
    ∷ case (w (tables (row 1 0 0 0 ++ row 0 0 65536 0) [] []) 0 0) (Refused 16)
    ∷ case (w (tables (row 1 0 0 1) (0 ∷ 0 ∷ 0 ∷ 256 ∷ 0 ∷ 0 ∷ []) []) 0 0) (Refused 16)
    -- 12 of the last feature before 13 of the agent, 13 of the name before 4 of the agent
    ∷ case (w (tables (row 256 0 0 2) (0 ∷ 0 ∷ 0 ∷ 0 ∷ 256 ∷ 1 ∷ []) (bad 256)) 0 0) (Refused 12)
    ∷ case (w (tables (row 1 256 0 0) [] (bad 256)) 0 0) (Refused 13)
    ∷ []

unfoldable pub cases : List Case
cases =
    in_order an_entry
    ++ (in_order a_handshake
    -- the room: an entry of 7 bytes, and with its timestamp 8
    ++ (case (an_entry (tables (row 0 0 0 0) [] []) 8 1) (To 8)
    ∷ case (an_entry (tables (row 0 0 0 0) [] []) 8 2) (Refused 14)
    ∷ case (a_handshake (tables (row 0 0 0 0) [] []) 8 0) (To 8)
    ∷ case (a_handshake (tables (row 0 0 0 0) [] []) 8 1) (Refused 14)
    -- `build`, line by line as above; 13 of the name before 4 of the agent; the room
    ∷ case (a_build (config (good 256) []) 0 1) (Refused 12)
    ∷ case (a_build (config (bad 256) []) 0 0) (Refused 13)
    ∷ case (a_build (config (bad 255) []) 0 0) (Refused 4)
    ∷ case (a_build (config (good 255) []) 0 0) (Refused 14)
    ∷ case (a_build (config (bad 1) (good 256)) 0 0) (Refused 13)
    ∷ case (a_build (config [] []) 21 0) (To 21)
    ∷ case (a_build (config [] []) 20 0) (Refused 14)
    -- each question over all entries before the next
    ∷ case (the_values (entry_with (bad 1) [] 0 ∷ entry_with (good 256) [] 0 ∷ [])) (Refused 13)
    ∷ case (the_values (entry_with [] [] 256 ∷ entry_with (good 256) [] 0 ∷ [])) (Refused 13)
    ∷ case (the_values (entry_with [] [] 256 ∷ entry_with (bad 1) [] 0 ∷ [])) (Refused 4)
    -- limits: strings of at most 255 bytes, at most 255 features
    ∷ case (the_values (entry_with (good 255) [] 255 ∷ [])) (To 0)
    ∷ case (the_values (entry_with (good 256) [] 0 ∷ [])) (Refused 13)
    ∷ case (the_values (entry_with [] (good 255) 0 ∷ [])) (To 0)
    ∷ case (the_values (entry_with [] (good 256) 0 ∷ [])) (Refused 13)
    ∷ case (the_values (entry_with [] [] 256 ∷ [])) (Refused 15)
    -- whole rows, ports below 65,536, versions and feature ids bytes, L 0, 8 or 20; if so, is row 0 there, is there room?
    ∷ case (a_handshake (tables [] [] []) 0 0) (Refused 12)
    ∷ case (a_handshake (tables (replicate 11 0) [] []) 0 0) (Refused 16)
    ∷ case (a_handshake (tables (replicate 12 0) [] []) 0 0) (Refused 14)
    ∷ case (a_handshake (tables (replicate 13 0) [] []) 0 0) (Refused 16)
    ∷ case (a_handshake (tables (replicate 12 0) (0 ∷ 0 ∷ []) []) 0 0) (Refused 16)
    ∷ case (a_handshake (tables (row 0 0 65535 0) [] []) 0 0) (Refused 14)
    ∷ case (a_handshake (tables (row 0 0 65536 0) [] []) 0 0) (Refused 16)
    ∷ case (a_handshake (tables (of_version 255 255 255) [] []) 0 0) (Refused 14)
    ∷ case (a_handshake (tables (of_version 256 0 0) [] []) 0 0) (Refused 16)
    ∷ case (a_handshake (tables (of_version 0 256 0) [] []) 0 0) (Refused 16)
    ∷ case (a_handshake (tables (of_version 0 0 256) [] []) 0 0) (Refused 16)
    ∷ case (a_handshake (tables (row 0 0 0 1) (255 ∷ 0 ∷ 0 ∷ []) []) 0 0) (Refused 14)
    ∷ case (a_handshake (tables (row 0 0 0 1) (256 ∷ 0 ∷ 0 ∷ []) []) 0 0) (Refused 16)
    ∷ case (a_handshake (tables (of_length 7) [] (good 16)) 0 0) (Refused 16)
    ∷ case (a_handshake (tables (of_length 8) [] (good 16)) 0 0) (Refused 14)
    ∷ case (a_handshake (tables (of_length 9) [] (good 16)) 0 0) (Refused 16)
    ∷ case (a_handshake (tables (of_length 19) [] (good 16)) 0 0) (Refused 16)
    ∷ case (a_handshake (tables (of_length 20) [] (good 16)) 0 0) (Refused 14)
    ∷ case (a_handshake (tables (of_length 21) [] (good 17)) 0 0) (Refused 16)
    -- with L = 0 the address place is not asked; without features the first row is, at most the number of rows
    ∷ case (a_handshake (tables (of_place 3) [] (good 2)) 0 0) (Refused 14)
    ∷ case (a_handshake (tables (of_first 2) (empty 2) []) 0 0) (Refused 14)
    ∷ case (a_handshake (tables (of_first 3) (empty 2) []) 0 0) (Refused 12)
    ∷ []))

pub all-cases : map (λ (c : Case). said_of c.write) cases ≡ map (λ (c : Case). c.says) cases
unfolding cases said_of entry_written handshake_written built_written built written asked tables_whole whole_rows rows entry_numbers feature_numbers every row_inside entry_inside inside feature_inside
    entries_asked short_strings utf8_strings few_features lengths_within entry_from_row feature_from_row address_of big_endian big_endian_from big_endian_bytes utf8 utf8_from lead_of lead_in Utf8.lead_rows
    entry_bytes handshake_bytes version_bytes address_bytes feature_bytes flat_map vlq_bytes vlq_in mode_feature session_feature nipopow zigzag_encode
all-cases = refl

-- of eleven rows of zeros the last is inside, and there is no next
pub past_the_rows : (row_inside (tables (replicate 132 0) [] []) 10 ≡ true) × (row_inside (tables (replicate 132 0) [] []) 11 ≡ false)
unfolding row_inside entry_inside inside every rows
past_the_rows = (refl, refl)

-- ---- features as long as the limit, and one byte longer

-- one entry, of which the first feature is a given one and the others are empty
abbrev first_of : List ℕ → ℕ → EntryValue
first_of body n = record { agent = []; version = v601; name = []; address = None; features = feature body ∷ replicate (n - 1) (feature []) }

unfoldable pub long_cases : List ℕ → List ℕ → List Case
long_cases most over =
    -- 15 before 3, also where 15 is the second entry's; 3 before 14
    case (the_values (first_of over 256 ∷ [])) (Refused 15)
    ∷ case (the_values (first_of over 1 ∷ entry_with [] [] 256 ∷ [])) (Refused 15)
    ∷ case (an_entry (tables (row 0 0 0 1) (0 ∷ 0 ∷ 16388609 ∷ []) over) 0 0) (Refused 3)
    ∷ case (a_handshake (tables (row 0 0 0 1) (0 ∷ 0 ∷ 16388609 ∷ []) over) 0 0) (Refused 3)
    -- the limit
    ∷ case (the_values (first_of most 1 ∷ [])) (To 0)
    ∷ case (the_values (first_of over 1 ∷ [])) (Refused 3)
    ∷ []

unfoldable pub EachAgrees : List Case → Type 0
EachAgrees [] = Unit {0}
EachAgrees (c ∷ cs) = (said_of c.write ≡ c.says) × EachAgrees cs

pub all_long : (most over : List ℕ) → length most ≡ 16388608 → length over ≡ 16388609 → EachAgrees (long_cases most over)
unfolding long_cases EachAgrees said_of entry_written handshake_written written asked tables_whole whole_rows rows entry_numbers feature_numbers every row_inside entry_inside inside feature_inside
    entries_asked short_strings utf8_strings few_features lengths_within entry_from_row feature_from_row utf8 utf8_from
all_long most over m o = (refl, (refl, (rw (length-take 16388609 over, o), (rw (length-take 16388609 over, o), (rw m, (rw o, tt))))))
