-- The network that a number of C stands for.
use Rattle.std.specs.Prelude.{ℕ, zero, suc}
use Rattle.types.specs.declared.Network.{Network}
use Rattle.types.specs.declared.Network.TheVariants.{Mainnet, Testnet}

-- 0 is testnet, any other number mainnet
unfoldable pub network_of : ℕ → Network
network_of zero = Testnet
network_of (suc n) = Mainnet
