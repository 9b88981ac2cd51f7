-- The table in other words: each range of document 01, "Addresses", and document 02, §5, by its first and its last address as numbers. An
-- address is bogus exactly where one of them has it, on either network.
use Rattle.std.specs.Prelude.{ℕ, ◌+◌, ◌*◌, ◌^◌, ◌≡◌, refl, List, [], ◌∷◌, ◌++◌, Bool, true, false, ◌||◌, ◌&&◌, leb}
use Rattle.std.proofs.Math.Bool.{and-eq-true_iff}
use Rattle.types.specs.declared.Network.TheVariants.{Mainnet, Testnet}
use Rattle.types.specs.declared.Address.TheVariants.{V4, V6}
use Rattle.address_sanity.specs.Ranges.{Range, always_v4, always_v6, mainnet_v4, mainnet_v6}
use Rattle.address_sanity.specs.Bogus.{some_contains, bogus}
use Rattle.address_sanity.proofs.BogusLaws.{last, well_formed, every_row, contains_between}

-- one of the intervals has the number
unfoldable pub in_some : List (ℕ × ℕ) → ℕ → Bool
in_some [] a = false
in_some ((first, end) ∷ rest) a = (leb first a && leb a end) || in_some rest a

-- on every network
abbrev pub both_v4 : List (ℕ × ℕ)
both_v4 =
    (0x7f000000, 0x7fffffff)  -- 127.0.0.0/8
    ∷ (0xa9fe0000, 0xa9feffff)  -- 169.254.0.0/16
    ∷ (0xe0000000, 0xefffffff)  -- 224.0.0.0/4
    ∷ (0xf0000000, 0xffffffff)  -- 240.0.0.0/4
    ∷ (0x00000000, 0x00000000)  -- 0.0.0.0/32
    ∷ (0xc6120000, 0xc613ffff)  -- 198.18.0.0/15
    ∷ []

abbrev pub both_v6 : List (ℕ × ℕ)
both_v6 =
    (0x00000000000000000000000000000001, 0x00000000000000000000000000000001)  -- ::1/128
    ∷ (0x00000000000000000000000000000000, 0x00000000000000000000000000000000)  -- ::/128
    ∷ (0xff000000000000000000000000000000, 0xffffffffffffffffffffffffffffffff)  -- ff00::/8
    ∷ (0xfe800000000000000000000000000000, 0xfebfffffffffffffffffffffffffffff)  -- fe80::/10
    ∷ (0x00000000000000000000ffff00000000, 0x00000000000000000000ffffffffffff)  -- ::ffff:0:0/96
    ∷ []

-- on mainnet as well
abbrev pub mainnet_also_v4 : List (ℕ × ℕ)
mainnet_also_v4 =
    (0x0a000000, 0x0affffff)  -- 10.0.0.0/8
    ∷ (0xac100000, 0xac1fffff)  -- 172.16.0.0/12
    ∷ (0xc0a80000, 0xc0a8ffff)  -- 192.168.0.0/16
    ∷ (0x64400000, 0x647fffff)  -- 100.64.0.0/10
    ∷ (0xc0000200, 0xc00002ff)  -- 192.0.2.0/24
    ∷ (0xc6336400, 0xc63364ff)  -- 198.51.100.0/24
    ∷ (0xcb007100, 0xcb0071ff)  -- 203.0.113.0/24
    ∷ []

abbrev pub mainnet_also_v6 : List (ℕ × ℕ)
mainnet_also_v6 =
    (0xfc000000000000000000000000000000, 0xfdffffffffffffffffffffffffffffff)  -- fc00::/7
    ∷ (0x20010db8000000000000000000000000, 0x20010db8ffffffffffffffffffffffff)  -- 2001:db8::/32
    ∷ (0x3fff0000000000000000000000000000, 0x3fff0fffffffffffffffffffffffffff)  -- 3fff::/20
    ∷ []

-- the intervals of rows
unfoldable ends : ℕ → List Range → List (ℕ × ℕ)
ends width [] = []
ends width (row ∷ rows) = (row.0, last width row) ∷ ends width rows

some-within : (width a : ℕ) (rows : List Range) → every_row (well_formed width) rows ≡ true → some_contains width rows a ≡ in_some (ends width rows) a
unfolding every_row some_contains in_some ends
some-within width a [] h = refl
some-within width a (row ∷ rows) h =
    let parts = (and-eq-true_iff (well_formed width row) (every_row (well_formed width) rows)).0 h in
    rw (contains_between width row parts.0 a, some-within width a rows parts.1)

pub bogus-v4-mainnet : (ip port : ℕ) → bogus (V4 ip port) Mainnet ≡ in_some (both_v4 ++ mainnet_also_v4) ip
unfolding bogus every_row well_formed last ends always_v4 mainnet_v4
bogus-v4-mainnet ip port = some-within 32 ip (always_v4 ++ mainnet_v4) refl

pub bogus-v4_testnet : (ip port : ℕ) → bogus (V4 ip port) Testnet ≡ in_some both_v4 ip
unfolding bogus every_row well_formed last ends always_v4
bogus-v4_testnet ip port = some-within 32 ip always_v4 refl

pub bogus-v6-mainnet : (high low port : ℕ) → bogus (V6 high low port) Mainnet ≡ in_some (both_v6 ++ mainnet_also_v6) (high * 2 ^ 64 + low)
unfolding bogus every_row well_formed last ends always_v6 mainnet_v6
bogus-v6-mainnet high low port = some-within 128 (high * 2 ^ 64 + low) (always_v6 ++ mainnet_v6) refl

pub bogus-v6_testnet : (high low port : ℕ) → bogus (V6 high low port) Testnet ≡ in_some both_v6 (high * 2 ^ 64 + low)
unfolding bogus every_row well_formed last ends always_v6
bogus-v6_testnet high low port = some-within 128 (high * 2 ^ 64 + low) always_v6 refl
