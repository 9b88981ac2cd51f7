-- Document 01, "Addresses", and document 02, §5, on both networks: each of their ranges at both ends, 0.0.0.1, and the addresses that §5
-- names. Those of 01's "At the edges" stand in the crate `edges`. One lemma covers the table.
use Rattle.std.specs.Prelude.{ℕ, ◌+◌, ◌-◌, ◌/◌, ◌%◌, ◌^◌, ◌≡◌, refl, List, [], ◌∷◌, ◌++◌, map, Bool, true, false}
use Rattle.types.specs.declared.Network.TheVariants.{Mainnet, Testnet}
use Rattle.types.specs.declared.Address.{Address}
use Rattle.types.specs.declared.Address.TheVariants.{None, V4, V6}
use Rattle.address_sanity.specs.Ranges.{ipv4, ipv6, always_v4, always_v6, mainnet_v4, mainnet_v6}
use Rattle.address_sanity.specs.Bogus.{contains, some_contains, bogus}

-- an address, and whether it is bogus on each network
pub record Case : Type 0 where
  pub address : Address
  pub mainnet : Bool
  pub testnet : Bool

abbrev pub v4 : ℕ → Address
v4 a = V4 a 9030

abbrev pub v6 : ℕ → Address
v6 a = V6 (a / 2 ^ 64) (a % 2 ^ 64) 9030

-- bogus on mainnet, and on testnet or not; and nowhere
abbrev is : Bool → Address → Case
is testnet a = record { address = a; mainnet = true; testnet = testnet }

abbrev is_not : Address → Case
is_not a = record { address = a; mainnet = false; testnet = false }

-- the first and the last address of a range, and their neighbours outside
abbrev range : (ℕ → Address) → Bool → ℕ → ℕ → List Case
range v testnet first last = is_not (v (first - 1)) ∷ is testnet (v first) ∷ is testnet (v last) ∷ is_not (v (last + 1)) ∷ []

unfoldable pub cases : List Case
cases =
    -- always
    range v4 true (ipv4 127 0 0 0) (ipv4 127 255 255 255)
    ++ (range v4 true (ipv4 169 254 0 0) (ipv4 169 254 255 255)
    ++ (range v4 true (ipv4 198 18 0 0) (ipv4 198 19 255 255)
    ++ (range v6 true (ipv6 0 0 0 0 0 0xffff 0 0) (ipv6 0 0 0 0 0 0xffff 0xffff 0xffff)
    ++ (range v6 true (ipv6 0xfe80 0 0 0 0 0 0 0) (ipv6 0xfebf 0xffff 0xffff 0xffff 0xffff 0xffff 0xffff 0xffff)
    -- on mainnet also
    ++ (range v4 false (ipv4 10 0 0 0) (ipv4 10 255 255 255)
    ++ (range v4 false (ipv4 172 16 0 0) (ipv4 172 31 255 255)
    ++ (range v4 false (ipv4 192 168 0 0) (ipv4 192 168 255 255)
    ++ (range v4 false (ipv4 100 64 0 0) (ipv4 100 127 255 255)
    ++ (range v4 false (ipv4 192 0 2 0) (ipv4 192 0 2 255)
    ++ (range v4 false (ipv4 198 51 100 0) (ipv4 198 51 100 255)
    ++ (range v4 false (ipv4 203 0 113 0) (ipv4 203 0 113 255)
    ++ (range v6 false (ipv6 0xfc00 0 0 0 0 0 0 0) (ipv6 0xfdff 0xffff 0xffff 0xffff 0xffff 0xffff 0xffff 0xffff)
    ++ (range v6 false (ipv6 0x2001 0x0db8 0 0 0 0 0 0) (ipv6 0x2001 0x0db8 0xffff 0xffff 0xffff 0xffff 0xffff 0xffff)
    ++ (range v6 false (ipv6 0x3fff 0 0 0 0 0 0 0) (ipv6 0x3fff 0x0fff 0xffff 0xffff 0xffff 0xffff 0xffff 0xffff)
    -- always, at the first and the last of all addresses
    ++ (is true (v4 (ipv4 0 0 0 0))
    ∷ is_not (v4 (ipv4 0 0 0 1))
    ∷ is_not (v4 (ipv4 223 255 255 255))
    ∷ is true (v4 (ipv4 224 0 0 0))
    ∷ is true (v4 (ipv4 239 255 255 255))
    ∷ is true (v4 (ipv4 240 0 0 0))
    ∷ is true (v4 (ipv4 255 255 255 255))
    ∷ is true (v6 (ipv6 0 0 0 0 0 0 0 0))
    ∷ is true (v6 (ipv6 0 0 0 0 0 0 0 1))
    ∷ is_not (v6 (ipv6 0 0 0 0 0 0 0 2))
    ∷ is_not (v6 (ipv6 0xfeff 0xffff 0xffff 0xffff 0xffff 0xffff 0xffff 0xffff))
    ∷ is true (v6 (ipv6 0xff00 0 0 0 0 0 0 0))
    ∷ is true (v6 (ipv6 0xffff 0xffff 0xffff 0xffff 0xffff 0xffff 0xffff 0xffff))
    -- 3fff:fff:: is in, 3fff:1000:: is out, and so are others that share bytes with 3fff::/20
    ∷ is false (v6 (ipv6 0x3fff 0x0fff 0 0 0 0 0 0))
    ∷ is_not (v6 (ipv6 0x3fff 0x1000 0 0 0 0 0 0))
    ∷ is_not (v6 (ipv6 0x3fff 0x8000 0 0 0 0 0 0))
    ∷ is_not (v6 (ipv6 0x4000 0 0 0 0 0 0 0))
    ∷ is_not (v6 (ipv6 0 0 0 1 0x3fff 0 0 0))
    ∷ is true (v6 (ipv6 0xff3f 0xff00 0 0 0 0 0 0))
    -- an IPv4-mapped address, and none
    ∷ is true (v6 (ipv6 0 0 0 0 0 0xffff 0x0102 0x0304))
    ∷ is_not None
    ∷ [])))))))))))))))

pub all-cases : (map (λ (c : Case). bogus c.address Mainnet) cases ≡ map (λ (c : Case). c.mainnet) cases)
    × (map (λ (c : Case). bogus c.address Testnet) cases ≡ map (λ (c : Case). c.testnet) cases)
unfolding cases bogus some_contains contains always_v4 always_v6 mainnet_v4 mainnet_v6
all-cases = (refl, refl)

-- how addresses are noted
pub all_notations : (ipv4 1 2 3 4 ≡ 0x01020304) × (v6 (ipv6 1 2 3 4 5 6 7 8) ≡ V6 0x0001000200030004 0x0005000600070008 9030)
all_notations = (refl, refl)
