-- How many of the entries of a Peers message have a bogus address (document 01, "The session walk"); no address isn't bogus.
use Rattle.std.specs.Prelude.{ℕ, suc, cond, List, [], ◌∷◌}
use Rattle.types.specs.declared.Network.{Network}
use Rattle.address_sanity.specs.Bogus.{bogus}
use Rattle.handshake.specs.Entry.{Entry}

unfoldable pub bogus_count : Network → List Entry → ℕ
bogus_count network [] = 0
bogus_count network (e ∷ es) = cond (bogus e.address network) (suc (bogus_count network es)) (bogus_count network es)
