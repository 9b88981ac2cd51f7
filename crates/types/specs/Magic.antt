-- A network's magic: the four bytes that open its frames and stand in the Session feature of a handshake.
use Rattle.std.specs.Prelude.{ℕ, List, [], ◌∷◌}
use Rattle.types.specs.declared.Network.{Network}
use Rattle.types.specs.declared.Network.TheVariants.{Mainnet, Testnet}

-- document 01, "Entries and handshakes"
abbrev pub magic_of : Network → List ℕ
magic_of Mainnet = 1 ∷ 0 ∷ 2 ∷ 4 ∷ []
magic_of Testnet = 2 ∷ 3 ∷ 2 ∷ 3 ∷ []
