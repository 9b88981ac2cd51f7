-- The writes of messages at the edges of their questions (document 01, "Questions", Writers), computed from the
-- definitions: two neighbouring questions answered "no" at once, an earlier question at a later value, and both sides of
-- each limit. Features, payloads and bodies as long as the limit are given by their length alone, since counting them
-- would take the prover too long.
use Rattle.std.specs.Prelude.{ℕ, ◌*◌, ◌≤◌, ◌<◌, ◌≡◌, refl, length, replicate}
use Rattle.std.proofs.Common.{arith, length-append}
use mathlib.Core.List.{List, [], ◌∷◌, ◌++◌, map, flat_map}
use Rattle.std.proofs.lemmas.Bool.{lt-leb}
use Rattle.wire.specs.Bytes.{big_endian_bytes, every}
use Rattle.wire.proofs.BytesLaws.{length_flat_map_cons}
use Rattle.wire.specs.Output.{asked, written, Written, To, Refused}
use Rattle.vlq_utf8.specs.Utf8 as Utf8
use Rattle.vlq_utf8.specs.Utf8.{lead_in, lead_of, utf8_from, utf8}
use Rattle.vlq.specs.Vlq.{limit, vlq_in, vlq_bytes}
use Rattle.types.specs.declared.Network.TheVariants.{Mainnet}
use Rattle.types.specs.declared.Address.TheVariants.{None}
use Rattle.handshake.specs.Entry.{address_of}
use Rattle.handshake.specs.Value as Values
use Rattle.handshake.specs.Value.{EntryValue, FeatureValue}
use Rattle.handshake.specs.Tables as Tables
use Rattle.handshake.specs.Tables.{Tables, tables}
use Rattle.frame.specs.Frame.{checked_bytes, frame_bytes}
use Rattle.messages.specs.Value.{PayloadValue, MessageValue, peers_value, modifier_request_value, modifier_response_value, inv_value, sync_info_value, unknown_value, ids_bytes, payload_bytes, body_bytes, code_of, message_entries, payloads_within, count_within, unknown_code, code_free, message_asked}
use Rattle.messages.specs.Writes.{MessageWrite, write_get_peers, write_peers, write_modifier_request, write_modifier_response, write_inv, write_sync_info, write_unknown, ids_of, payload_from_row, payload_inside, value_of, message_whole, message_inside, message_written}

-- under a cap
pub data Write : Type 0 where
  -- a write into an output of some length, from a place on
  a_message : ℕ → MessageWrite → ℕ → ℕ → Write
  -- the questions of a message by value alone
  the_value : ℕ → MessageValue → Write

unfoldable pub said_of : Write → Written
said_of (a_message cap w n at) = message_written Mainnet cap w (replicate n 7) at
said_of (the_value cap m) = asked (message_asked cap m) (To 0)

pub record Case : Type 0 where
  pub write : Write
  pub says : Written

abbrev case : Write → Written → Case
case w s = record { write = w; says = s }

-- n bytes of UTF-8, and n bytes that are none
abbrev good : ℕ → List ℕ
good n = replicate n 0x61

abbrev bad : ℕ → List ℕ
bad n = replicate n 0xff

-- a row: the agent's length, from the start of the buffer on; the port; how many feature rows, from the first on
abbrev row : ℕ → ℕ → ℕ → List ℕ
row agent port features = 0 ∷ agent ∷ 6 ∷ 0 ∷ 1 ∷ 0 ∷ 0 ∷ 0 ∷ 0 ∷ port ∷ 0 ∷ features ∷ []

-- n feature rows of id, place and length 0
abbrev empty : ℕ → List ℕ
empty n = replicate (3 * n) 0

abbrev feature : List ℕ → FeatureValue
feature body = record { id = 0; body = body }

abbrev payload : List ℕ → PayloadValue
payload body = record { id = []; body = body }

-- an entry's agent and features
abbrev entry_with : List ℕ → List FeatureValue → EntryValue
entry_with agent features = record { agent = agent; version = record { major = 6; minor = 0; patch = 1 }; name = []; address = None; features = features }

-- Peers and ModifierResponse, into an empty output
abbrev peers_at : ℕ → Tables → ℕ → Write
peers_at cap l at = a_message cap (write_peers l) 0 at

abbrev response_at : List ℕ → List ℕ → ℕ → Write
response_at table buffer at = a_message 64 (write_modifier_response 2 table buffer) 0 at

-- of a table of ids, ModifierRequest and Inv
abbrev ids : (ℕ → List ℕ → List ℕ → MessageWrite) → (ℕ → List (List ℕ) → MessageValue) → List Case
ids write value =
    -- 12 of the place and of the ids, before 10 and before 14
    case (a_message 64 (write 2 (0 ∷ []) (good 31)) 0 1) (Refused 12)
    ∷ case (a_message 64 (write 2 (replicate 401 0) (good 31)) 0 0) (Refused 12)
    ∷ case (a_message 64 (write 2 (replicate 401 0) (good 32)) 0 0) (Refused 10)
    ∷ case (the_value 64 (value 2 (replicate 400 []))) (To 0)
    ∷ case (the_value 64 (value 2 (replicate 401 []))) (Refused 10)
    ∷ []

unfoldable pub cases : List Case
cases =
    -- Peers: two neighbouring questions answered "no"; each line puts the first of the line before it right
    case (peers_at 64 (tables (row 0 65536 0) [] []) 1) (Refused 16)
    ∷ case (peers_at 64 (tables (row 1 0 0) [] []) 1) (Refused 12)
    ∷ case (peers_at 64 (tables (row 257 0 0) [] (bad 256)) 0) (Refused 12)
    ∷ case (peers_at 64 (tables (row 256 0 0) [] (bad 256)) 0) (Refused 13)
    ∷ case (peers_at 0 (tables (row 255 0 256) (empty 256) (bad 255)) 0) (Refused 4)
    ∷ case (peers_at 0 (tables (row 255 0 256) (empty 256) (good 255)) 0) (Refused 15)
    ∷ case (the_value 0 (peers_value (entry_with [] [] ∷ []))) (Refused 10)
    -- each question over all rows before the next: an earlier one of row 1, a later one of row 0
    ∷ case (peers_at 64 (tables (row 1 0 0 ++ row 0 65536 0) [] []) 0) (Refused 16)
    ∷ case (peers_at 64 (tables (row 256 0 0 ++ row 257 0 0) [] (bad 256)) 0) (Refused 12)
    ∷ case (peers_at 64 (tables (row 1 0 0 ++ row 256 0 0) [] (bad 256)) 0) (Refused 13)
    ∷ case (peers_at 64 (tables (row 0 0 256 ++ row 256 0 0) (empty 256) (good 256)) 0) (Refused 13)
    ∷ case (the_value 64 (peers_value (entry_with [] (replicate 256 (feature [])) ∷ entry_with (bad 1) [] ∷ []))) (Refused 4)
    -- the cap, and one more
    ∷ case (the_value 2 (peers_value (replicate 2 (entry_with [] [])))) (To 0)
    ∷ case (the_value 2 (peers_value (replicate 3 (entry_with [] [])))) (Refused 10)
    ∷ case (the_value 401 (peers_value (replicate 401 (entry_with [] [])))) (To 0)
    -- ModifierResponse: whole rows before the place, the place and the parts before 10, at most 400 payloads
    ∷ case (response_at (0 ∷ 0 ∷ []) [] 1) (Refused 16)
    ∷ case (response_at (0 ∷ 0 ∷ 0 ∷ []) (good 31) 1) (Refused 12)
    ∷ case (response_at (empty 401) (good 31) 0) (Refused 12)
    ∷ case (the_value 64 (modifier_response_value 2 (replicate 400 (payload [])))) (To 0)
    ∷ case (the_value 64 (modifier_response_value 2 (replicate 401 (payload [])))) (Refused 10)
    -- Unknown: 12 before 15, 15 before 14; GetPeers: the room for its 9 bytes
    ∷ case (a_message 64 (write_unknown 22 []) 8 9) (Refused 12)
    ∷ case (a_message 64 (write_unknown 22 []) 8 0) (Refused 15)
    ∷ case (a_message 64 (write_unknown 23 []) 8 0) (Refused 14)
    ∷ case (a_message 64 write_get_peers 10 2) (Refused 14)
    ∷ case (a_message 64 write_get_peers 10 1) (To 10)
    ∷ (ids write_modifier_request modifier_request_value ++ ids write_inv inv_value)

pub all-cases : map (λ (c : Case). said_of c.write) cases ≡ map (λ (c : Case). c.says) cases
unfolding cases said_of message_written written asked message_asked message_whole message_inside value_of ids_of payload_from_row payload_inside message_entries payloads_within count_within unknown_code code_free code_of
    body_bytes ids_bytes payload_bytes frame_bytes checked_bytes big_endian_bytes every Values.entries_asked Values.short_strings Values.utf8_strings Values.few_features Values.lengths_within
    Values.entry_bytes Values.version_bytes Values.address_bytes Values.feature_bytes flat_map vlq_bytes vlq_in utf8 utf8_from lead_of lead_in Utf8.lead_rows
    Tables.rows Tables.entries_of Tables.tables_whole Tables.whole_rows Tables.entry_numbers Tables.feature_numbers Tables.entry_inside Tables.inside Tables.feature_inside Tables.entry_from_row Tables.feature_from_row address_of
all-cases = refl

-- ---- features, payloads and bodies as long as the limit, and one byte longer

unfoldable pub long_cases : List ℕ → List ℕ → List Case
long_cases most over =
    -- Peers: 15 before 3, 3 before 10, 10 before 7, 7 before 14; 15 of row 1 before 3 of row 0
    case (the_value 0 (peers_value (entry_with [] (feature over ∷ replicate 255 (feature [])) ∷ []))) (Refused 15)
    ∷ case (the_value 0 (peers_value (entry_with [] (feature over ∷ []) ∷ []))) (Refused 3)
    ∷ case (the_value 0 (peers_value (entry_with [] (feature most ∷ []) ∷ []))) (Refused 10)
    ∷ case (the_value 1 (peers_value (entry_with [] (feature most ∷ []) ∷ []))) (Refused 7)
    ∷ case (the_value 64 (peers_value (entry_with [] (feature over ∷ []) ∷ entry_with [] (replicate 256 (feature [])) ∷ []))) (Refused 15)
    -- ModifierResponse: 12 before 3, 3 before 10, 10 before 7, 7 before 14; 12 of row 1 before 3 of row 0
    ∷ case (response_at (0 ∷ 1 ∷ 16388610 ∷ []) (7 ∷ over) 0) (Refused 12)
    ∷ case (the_value 64 (modifier_response_value 2 (payload over ∷ replicate 400 (payload [])))) (Refused 3)
    ∷ case (the_value 64 (modifier_response_value 2 (payload most ∷ replicate 400 (payload [])))) (Refused 10)
    ∷ case (the_value 64 (modifier_response_value 2 (payload most ∷ []))) (Refused 7)
    ∷ case (response_at (0 ∷ 1 ∷ 16388609 ∷ 16388610 ∷ 0 ∷ 0 ∷ []) (7 ∷ over) 0) (Refused 12)
    -- Unknown and SyncInfo: 12 before 7, 7 before 15 and 14; the limit of a body
    ∷ case (a_message 64 (write_unknown 22 over) 0 1) (Refused 12)
    ∷ case (a_message 64 (write_unknown 22 over) 0 0) (Refused 7)
    ∷ case (a_message 64 (write_unknown 22 most) 0 0) (Refused 15)
    ∷ case (a_message 64 (write_sync_info over) 0 0) (Refused 7)
    ∷ case (the_value 64 (unknown_value 23 most)) (To 0)
    ∷ case (the_value 64 (unknown_value 23 over)) (Refused 7)
    ∷ case (the_value 64 (sync_info_value most)) (To 0)
    ∷ case (the_value 64 (sync_info_value over)) (Refused 7)
    ∷ []

unfoldable pub EachAgrees : List Case → Type 0
EachAgrees [] = Unit {0}
EachAgrees (c ∷ cs) = (said_of c.write ≡ c.says) × EachAgrees cs

-- a body is longer than a feature or a payload in it
feature_in-entry : (body : List ℕ) → length body < length (Values.entry_bytes (entry_with [] (feature body ∷ [])))
unfolding Values.entry_bytes Values.version_bytes Values.address_bytes Values.feature_bytes
feature_in-entry body =
    omega (arith, length_flat_map_cons Values.feature_bytes (feature body) [], length-append (vlq_bytes (length body)) body)

entry_in-peers : (e : EntryValue) → length (Values.entry_bytes e) ≤ length (body_bytes (peers_value (e ∷ [])))
unfolding body_bytes
entry_in-peers e =
    omega (arith, length-append (vlq_bytes 1) (flat_map Values.entry_bytes (e ∷ [])), length_flat_map_cons Values.entry_bytes e [])

payload_in_response : (p : PayloadValue) → length p.body < length (body_bytes (modifier_response_value 2 (p ∷ [])))
unfolding body_bytes payload_bytes
payload_in_response p =
    let rest = vlq_bytes (length p.body) in
    omega (
      arith,
      length-append (vlq_bytes 1) (flat_map payload_bytes (p ∷ [])),
      length_flat_map_cons payload_bytes p [],
      length-append p.id (rest ++ p.body),
      length-append rest p.body,
    )

-- 7 where a feature, or a payload, is as long as a body may be
peers_7 : (most : List ℕ) → length most ≡ 16388608 → said_of (the_value 1 (peers_value (entry_with [] (feature most ∷ []) ∷ []))) ≡ Refused 7
unfolding said_of asked message_asked message_entries payloads_within count_within every Values.entries_asked Values.short_strings Values.utf8_strings Values.few_features Values.lengths_within utf8 utf8_from
peers_7 most m =
    let e = entry_with [] (feature most ∷ []) in
    rw (m, lt-leb (length (body_bytes (peers_value (e ∷ [])))) limit (omega (arith, m, feature_in-entry most, entry_in-peers e)))

response_7 : (most : List ℕ) → length most ≡ 16388608 → said_of (the_value 64 (modifier_response_value 2 (payload most ∷ []))) ≡ Refused 7
unfolding said_of asked message_asked message_entries payloads_within count_within every Values.entries_asked
response_7 most m =
    rw (m, lt-leb (length (body_bytes (modifier_response_value 2 (payload most ∷ [])))) limit (omega (arith, m, payload_in_response (payload most))))

pub all_long : (most over : List ℕ) → length most ≡ 16388608 → length over ≡ 16388609 → EachAgrees (long_cases most over)
unfolding long_cases EachAgrees said_of message_written written asked message_asked message_whole message_inside value_of payload_inside message_entries payloads_within count_within unknown_code code_free
    body_bytes every Values.entries_asked Values.short_strings Values.utf8_strings Values.few_features Values.lengths_within utf8 utf8_from Tables.rows Tables.whole_rows Tables.inside
all_long most over m o = (
  refl,
  (
    rw o,
    (
      rw m,
      (
        peers_7 most m,
        (
          refl,
          (
            rw o,
            (
              rw o,
              (
                rw m,
                (
                  response_7 most m,
                  (
                    rw o,
                    (
                      refl,
                      (
                        rw o,
                        (
                          rw m,
                          (
                            rw o,
                            (
                              rw m,
                              (
                                rw o,
                                (
                                  rw m,
                                  (
                                    rw o,
                                    tt,
                                  ),
                                ),
                              ),
                            ),
                          ),
                        ),
                      ),
                    ),
                  ),
                ),
              ),
            ),
          ),
        ),
      ),
    ),
  ),
)
