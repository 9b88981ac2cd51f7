-- What is made of numbers, computed from the definitions. Numbers of different roles are different, so that none stands
-- for another.
use Rattle.std.specs.Prelude.{ℕ, Bool, true, false, List, [], ◌∷◌, map, ◌≡◌, refl, pos, negsuc}
use Rattle.types.specs.declared.Network.{Network}
use Rattle.types.specs.declared.Network.TheVariants.{Mainnet, Testnet}
use Rattle.types.specs.declared.ProxyMode.{ProxyMode}
use Rattle.types.specs.declared.ProxyMode.TheVariants.{Full, Light}
use Rattle.types.specs.declared.Address.{Address}
use Rattle.types.specs.declared.Address.TheVariants.{None, V4, V6}
use Rattle.handshake_build.specs.declared.Config.{Config}
use Rattle.export_config.specs.Configs.{is_set, mode_of, address_from, address_numbers, config_from}

-- what is computed, and what it is by hand
pub record Case (A : Type 0) : Type 0 where
  pub computed : A
  pub is : A

abbrev pub case : {A : Type 0} → A → A → Case A
case c i = record { computed = c; is = i }

-- ---- `config_from`

-- of the network, light, verifying; kind, high and low half of the address
abbrev from : Network → ℕ → ℕ → ℕ → ℕ → ℕ → Config
from network light verifying kind high low = config_from network light 20 verifying (pos 21) 22 23 24 kind high low 25 26 (negsuc 27)

abbrev pub config : Network → ProxyMode → Bool → Address → Config
config network mode verifying address =
    record {
      network = network;
      mode = record { proxy = mode; state_type_id = 20; verifying = verifying; blocks_to_keep = pos 21 };
      version = record { major = 22; minor = 23; patch = 24 };
      address = address;
      timestamp = 26;
      session = negsuc 27;
    }

unfoldable pub configs : List (Case Config)
configs =
    case (from Testnet 0 0 0 0 0) (config Testnet Full false None)
    ∷ case (from Testnet 0 1 0 0 0) (config Testnet Full true None)
    ∷ case (from Testnet 1 0 0 0 0) (config Testnet Light false None)
    ∷ case (from Testnet 1 1 0 0 0) (config Testnet Light true None)
    ∷ case (from Mainnet 0 0 0 0 0) (config Mainnet Full false None)
    ∷ case (from Mainnet 0 1 0 0 0) (config Mainnet Full true None)
    ∷ case (from Mainnet 1 0 0 0 0) (config Mainnet Light false None)
    ∷ case (from Mainnet 1 1 0 0 0) (config Mainnet Light true None)
    -- any number but 0 is as 1
    ∷ case (from Testnet 2 0 0 0 0) (config Testnet Light false None)
    ∷ case (from Testnet 255 0 0 0 0) (config Testnet Light false None)
    ∷ case (from Testnet 0 2 0 0 0) (config Testnet Full true None)
    ∷ case (from Testnet 0 255 0 0 0) (config Testnet Full true None)
    -- the address
    ∷ case (from Testnet 0 0 0 28 29) (config Testnet Full false None)
    ∷ case (from Testnet 0 0 4 28 0) (config Testnet Full false (V4 28 25))
    ∷ case (from Testnet 0 0 6 28 29) (config Testnet Full false (V6 28 29 25))
    ∷ []

pub all-configs : map (λ (c : Case Config). c.computed) configs ≡ map (λ (c : Case Config). c.is) configs
unfolding configs mode_of is_set address_from
all-configs = refl

-- ---- the numbers of an address

unfoldable pub addresses : List (Case Bool)
addresses =
    -- the kind
    case (address_numbers 0 0 0) true
    ∷ case (address_numbers 4 0 0) true
    ∷ case (address_numbers 6 0 0) true
    ∷ case (address_numbers 1 0 0) false
    ∷ case (address_numbers 2 0 0) false
    ∷ case (address_numbers 3 0 0) false
    ∷ case (address_numbers 5 0 0) false
    ∷ case (address_numbers 7 0 0) false
    ∷ case (address_numbers 255 0 0) false
    -- IPv4: 32 bits, no low half
    ∷ case (address_numbers 4 0xffff_ffff 0) true
    ∷ case (address_numbers 4 0x1_0000_0000 0) false
    ∷ case (address_numbers 4 0xffff_ffff 1) false
    ∷ case (address_numbers 4 0 1) false
    -- IPv6 and no address: any numbers
    ∷ case (address_numbers 6 0xffff_ffff_ffff_ffff 0xffff_ffff_ffff_ffff) true
    ∷ case (address_numbers 0 0xffff_ffff_ffff_ffff 0xffff_ffff_ffff_ffff) true
    ∷ []

pub all-addresses : map (λ (c : Case Bool). c.computed) addresses ≡ map (λ (c : Case Bool). c.is) addresses
unfolding addresses address_numbers
all-addresses = refl
