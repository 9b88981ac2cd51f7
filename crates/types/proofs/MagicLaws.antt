-- A magic has four bytes.
use Rattle.std.specs.Prelude.{◌≡◌, refl, length}
use Rattle.types.specs.declared.Network.{Network}
use Rattle.types.specs.declared.Network.TheVariants.{Mainnet, Testnet}
use Rattle.types.specs.Magic.{magic_of}

pub length-magic : (network : Network) → length (magic_of network) ≡ 4
length-magic Mainnet = refl
length-magic Testnet = refl
