-- What `build` is given, from numbers.
use Rattle.std.specs.Prelude.{Result, Ok, Err, ℕ, zero, suc, ◌^◌, Bool, true, false, cond, ◌||◌, ◌&&◌, eqb, ltb, ℤ}
use Rattle.wire.specs.declared.Refusal.{Refusal}
use Rattle.wire.specs.declared.Refusal.TheVariants.{BadTable}
use Rattle.types.specs.declared.Network.{Network}
use Rattle.types.specs.declared.ProxyMode.{ProxyMode}
use Rattle.types.specs.declared.ProxyMode.TheVariants.{Full, Light}
use Rattle.types.specs.declared.Address.{Address}
use Rattle.types.specs.declared.Address.TheVariants.{None, V4, V6}
use Rattle.handshake_build.specs.declared.Config.{Config}

unfoldable pub is_set : ℕ → Bool
is_set zero = false
is_set (suc n) = true

-- 0 is a full node
unfoldable pub mode_of : ℕ → ProxyMode
mode_of zero = Full
mode_of (suc n) = Light

-- 4 or 6, with the address's number, of IPv6 its two halves; otherwise none
unfoldable pub address_from : ℕ → ℕ → ℕ → ℕ → Address
address_from kind high low port = cond (eqb kind 4) (V4 high port) (cond (eqb kind 6) (V6 high low port) None)

-- BadTable if "no": is the kind 0, 6, or 4 with a number below 2^32 and no low half? Beside no address the numbers are not looked at.
unfoldable pub address_numbers : ℕ → ℕ → ℕ → Bool
address_numbers kind high low = eqb kind 0 || eqb kind 6 || eqb kind 4 && ltb high (2 ^ 32) && eqb low 0

abbrev pub config_from : Network → ℕ → ℕ → ℕ → ℤ → ℕ → ℕ → ℕ → ℕ → ℕ → ℕ → ℕ → ℕ → ℤ → Config
config_from network light state_type verifying blocks_to_keep major minor patch kind high low port timestamp session =
    record {
      network = network;
      mode = record { proxy = mode_of light; state_type_id = state_type; verifying = is_set verifying; blocks_to_keep = blocks_to_keep };
      version = record { major = major; minor = minor; patch = patch };
      address = address_from kind high low port;
      timestamp = timestamp;
      session = session;
    }

unfoldable pub config_read : Network → ℕ → ℕ → ℕ → ℤ → ℕ → ℕ → ℕ → ℕ → ℕ → ℕ → ℕ → ℕ → ℤ → Result Config Refusal
config_read network light state_type verifying blocks_to_keep major minor patch kind high low port timestamp session =
    cond (address_numbers kind high low)
    (Ok (config_from network light state_type verifying blocks_to_keep major minor patch kind high low port timestamp session))
    (Err BadTable)
