-- What an exported function makes of numbers, computed from the definitions. Numbers of different roles are different, so that
-- none stands for another.
use Rattle.std.specs.Prelude.{ℕ, true, false, ◌≡◌, refl, pos, negsuc, replicate}
use mathlib.Core.List.{List, [], ◌∷◌, map, flat_map}
use Rattle.wire.specs.Bytes.{big_endian_bytes, every}
use Rattle.wire.specs.Output.{asked, written, Written, To, Refused}
use Rattle.wire.specs.Reader.{got, refused}
use Rattle.wire.specs.declared.Part.{Part}
use Rattle.vlq_utf8.specs.Utf8 as Utf8
use Rattle.vlq_utf8.specs.Utf8.{lead_in, lead_of, utf8_from, utf8}
use Rattle.vlq.specs.Vlq.{vlq_in, vlq_bytes}
use Rattle.vlq_zigzag.specs.Zigzag.{zigzag_encode}
use Rattle.types.specs.declared.Network.TheVariants.{Mainnet, Testnet}
use Rattle.types.specs.declared.ProxyMode.TheVariants.{Full, Light}
use Rattle.types.specs.declared.Address.TheVariants.{None, V6}
use Rattle.handshake.specs.Value.{address_bytes, feature_bytes, version_bytes, entry_bytes, handshake_bytes, short_strings, utf8_strings, few_features, lengths_within, entries_asked}
use Rattle.handshake.specs.Writes.{nipopow, mode_feature, session_feature, built}
use Rattle.handshake_build.specs.declared.Config.{Config}
use Rattle.handshake_build.specs.Parts.{config_of}
use Rattle.frame_read.specs.declared.Frame.{Frame}
use Rattle.export_arrays.specs.Networks.{network_of}
use Rattle.export_config.proofs.Cases.{Case, case, config}
use Rattle.export_config.specs.Configs.{is_set, mode_of, address_from, address_numbers}
use Rattle.haspeljo.specs.Results.{number_of, array_after, value_next, part_next, written_number, end_after, bit}
use Rattle.haspeljo.specs.Frames.{frame_next}
use Rattle.haspeljo.specs.Configs.{built_from, built_from_written}

-- ---- `built_from`

-- of mainnet, light, verifying; kind, high and low half of the address
abbrev from : ℕ → ℕ → ℕ → ℕ → ℕ → ℕ → Config
from mainnet light verifying kind high low = built_from mainnet light 20 verifying (pos 21) 22 23 24 kind high low 25 26 (negsuc 27)

unfoldable pub configs : List (Case Config)
configs =
    case (from 0 0 0 0 0 0) (config Testnet Full false None)
    ∷ case (from 1 0 0 0 0 0) (config Mainnet Full false None)
    ∷ case (from 1 1 1 0 0 0) (config Mainnet Light true None)
    -- any number but 0 is as 1
    ∷ case (from 2 0 0 0 0 0) (config Mainnet Full false None)
    ∷ case (from 255 0 0 0 0 0) (config Mainnet Full false None)
    -- the address
    ∷ case (from 0 0 0 6 28 29) (config Testnet Full false (V6 28 29 25))
    ∷ []

pub all-configs : map (λ (c : Case Config). c.computed) configs ≡ map (λ (c : Case Config). c.is) configs
unfolding configs network_of mode_of is_set address_from
all-configs = refl

-- ---- the order of `built_from_written`

-- n bytes of UTF-8, and n bytes that are none
abbrev good : ℕ → List ℕ
good n = replicate n 0x61

abbrev bad : ℕ → List ℕ
bad n = replicate n 0xff

-- kind, high and low half of the address; the agent; into an output of n bytes, from a place on
abbrev said : ℕ → ℕ → ℕ → List ℕ → ℕ → ℕ → Written
said kind high low agent n at = built_from_written kind high low (config_of (from 0 0 0 kind high low) agent []) (replicate n 7) at

unfoldable pub writes : List (Case Written)
writes =
    -- 16 before 12, 13, 4 and 14
    case (said 5 0 0 [] 0 1) (Refused 16)
    ∷ case (said 5 0 0 (good 256) 0 0) (Refused 16)
    ∷ case (said 5 0 0 (bad 255) 0 0) (Refused 16)
    ∷ case (said 5 0 0 [] 0 0) (Refused 16)
    ∷ case (said 5 0 0 [] 21 0) (Refused 16)
    ∷ case (said 4 0x1_0000_0000 0 [] 0 1) (Refused 16)
    ∷ case (said 4 0 1 [] 0 1) (Refused 16)
    -- two neighbouring questions answered "no"; each line puts the first of the line before it right
    ∷ case (said 0 0 0 (good 256) 0 1) (Refused 12)
    ∷ case (said 0 0 0 (bad 256) 0 0) (Refused 13)
    ∷ case (said 0 0 0 (bad 255) 0 0) (Refused 4)
    ∷ case (said 0 0 0 (good 255) 0 0) (Refused 14)
    -- the room
    ∷ case (said 0 28 29 [] 22 1) (To 22)
    ∷ case (said 0 28 29 [] 22 2) (Refused 14)
    ∷ case (said 4 0xffff_ffff 0 [] 27 0) (To 27)
    ∷ case (said 4 0xffff_ffff 0 [] 26 0) (Refused 14)
    ∷ case (said 6 28 29 [] 39 0) (To 39)
    ∷ case (said 6 28 29 [] 38 0) (Refused 14)
    ∷ []

pub all-writes : map (λ (c : Case Written). c.computed) writes ≡ map (λ (c : Case Written). c.is) writes
unfolding writes built_from_written address_numbers network_of mode_of is_set address_from built written asked entries_asked short_strings utf8_strings few_features lengths_within utf8 utf8_from lead_of lead_in Utf8.lead_rows
    every big_endian_bytes entry_bytes handshake_bytes version_bytes address_bytes feature_bytes flat_map vlq_bytes vlq_in mode_feature session_feature nipopow zigzag_encode
all-writes = refl

-- ---- what is left in the array

abbrev part : Part
part = record { start = 32; len = 33 }

abbrev frame : Frame
frame = record { code = 31; body = record { start = record { 0 = 32 }; len = 33 } }

abbrev array : List ℕ
array = 40 ∷ 41 ∷ 42 ∷ 43 ∷ []

unfoldable pub results : List (Case (List ℕ))
results =
    case (number_of (got part 34) ∷ []) (0 ∷ [])
    ∷ case (number_of {A = Part} (refused 12) ∷ []) (12 ∷ [])
    ∷ case (array_after value_next (got 30 34) array) (30 ∷ 34 ∷ [])
    ∷ case (array_after value_next (refused 12) array) array
    ∷ case (array_after part_next (got part 34) array) (32 ∷ 33 ∷ 34 ∷ [])
    ∷ case (array_after part_next (refused 12) array) array
    ∷ case (array_after frame_next (got frame 34) array) (31 ∷ 32 ∷ 33 ∷ 34 ∷ [])
    ∷ case (array_after frame_next (refused 12) array) array
    ∷ case (written_number (To 34) ∷ []) (0 ∷ [])
    ∷ case (written_number (Refused 14) ∷ []) (14 ∷ [])
    ∷ case (end_after (To 34) array) (34 ∷ [])
    ∷ case (end_after (Refused 14) array) array
    ∷ case (bit true ∷ bit false ∷ []) (1 ∷ 0 ∷ [])
    ∷ []

pub all_results : map (λ (c : Case (List ℕ)). c.computed) results ≡ map (λ (c : Case (List ℕ)). c.is) results
unfolding results
all_results = refl
