-- An address is bogus where some row of the table contains it: document 01, "Addresses".
use Rattle.std.specs.Prelude.{ℕ, ◌+◌, ◌*◌, ◌-◌, ◌/◌, ◌^◌, List, [], ◌∷◌, ◌++◌, Bool, true, false, ◌||◌, eqb}
use Rattle.types.specs.declared.Network.{Network}
use Rattle.types.specs.declared.Network.TheVariants.{Mainnet, Testnet}
use Rattle.types.specs.declared.Address.{Address}
use Rattle.types.specs.declared.Address.TheVariants.{None, V4, V6}
use Rattle.address_sanity.specs.Ranges.{Range, always_v4, always_v6, mainnet_v4, mainnet_v6}

-- the address, of width bits, has the prefix of the row's first address (RFC 4632, section 3.1)
unfoldable pub contains : ℕ → Range → ℕ → Bool
contains width (first, len) a = eqb (a / 2 ^ (width - len)) (first / 2 ^ (width - len))

-- some row contains the address
unfoldable pub some_contains : ℕ → List Range → ℕ → Bool
some_contains width [] a = false
some_contains width (row ∷ rows) a = contains width row a || some_contains width rows a

-- the rows that count on a network, of those for every network and those for mainnet
abbrev pub rows_on : Network → List Range → List Range → List Range
rows_on Mainnet always mainnet = always ++ mainnet
rows_on Testnet always mainnet = always

-- None is not bogus, and the port plays no part
unfoldable pub bogus : Address → Network → Bool
bogus None network = false
bogus (V4 ip port) network = some_contains 32 (rows_on network always_v4 mainnet_v4) ip
bogus (V6 high low port) network = some_contains 128 (rows_on network always_v6 mainnet_v6) (high * 2 ^ 64 + low)

-- ---- Only for laws, proofs and private functions: no public contract and no theorem cites what follows.

abbrev pub is_mainnet : Network → Bool
is_mainnet Mainnet = true
is_mainnet Testnet = false
