-- `is_bogus_address` meets its contract: at each kind of address, the rows for every network and those for mainnet are asked.
use Rattle.address_sanity.specs.Ranges.{always_v4, always_v6, mainnet_v4, mainnet_v6}
use Rattle.address_sanity.specs.Bogus.{bogus}
use Rattle.address_sanity.proofs.RowTests.{either}
use Rattle.address_sanity.proofs.is_bogus_address.Goals as goal

pub returns-in-None : goal.returns-in-None
unfolding bogus
returns-in-None c = rw c.in-None.is

pub returns-in-V4 : goal.returns-in-V4
unfolding bogus
returns-in-V4 c =
    rw c.in-V4.is
    (either c.args.network 32 _ always_v4 mainnet_v4 _ _ _
    c.is_mainnet-mainnet.ensures
    c.is_always_bogus_v4.ensures
    c.is_mainnet_only_bogus_v4.ensures)

pub returns-in-V6 : goal.returns-in-V6
unfolding bogus
returns-in-V6 c =
    rw c.in-V6.is
    (either c.args.network 128 _ always_v6 mainnet_v6 _ _ _
    c.is_mainnet-mainnet.ensures
    c.is_always_bogus_v6.ensures
    c.is_mainnet_only_bogus_v6.ensures)
