-- What `build` is given, from numbers, and what is then said.
use Rattle.std.specs.Prelude.{ℕ, List, [], ◌∷◌, ℤ}
use Rattle.wire.specs.Output.{ask, written, Written}
use Rattle.handshake.specs.Value.{handshake_bytes, entries_asked}
use Rattle.handshake.specs.Writes.{built}
use Rattle.handshake.specs.Writes as writes
use Rattle.handshake_build.specs.declared.Config.{Config}
use Rattle.export_arrays.specs.Networks.{network_of}
use Rattle.export_config.specs.Configs.{address_numbers, config_from}

abbrev pub built_from : ℕ → ℕ → ℕ → ℕ → ℤ → ℕ → ℕ → ℕ → ℕ → ℕ → ℕ → ℕ → ℕ → ℤ → Config
built_from mainnet light state_type verifying blocks_to_keep major minor patch kind high low port timestamp session =
    config_from (network_of mainnet) light state_type verifying blocks_to_keep major minor patch kind high low port timestamp session

-- what is said of numbers: 16 of those of the address, then all that `build` asks
unfoldable pub built_from_written : ℕ → ℕ → ℕ → writes.Config → List ℕ → ℕ → Written
built_from_written kind high low c out at =
    written (ask 16 (address_numbers kind high low) ∷ []) (entries_asked ((built c).entry ∷ [])) out at (handshake_bytes (built c))
