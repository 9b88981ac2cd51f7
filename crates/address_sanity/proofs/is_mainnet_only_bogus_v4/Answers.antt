-- `is_mainnet_only_bogus_v4` meets its contract: its tests are those of the rows.
use Rattle.address_sanity.specs.Ranges.{mainnet_v4}
use Rattle.address_sanity.proofs.RowTests.{some_v4}
use Rattle.address_sanity.proofs.is_mainnet_only_bogus_v4.Goals as goal

pub returns : goal.returns
unfolding mainnet_v4
returns c = some_v4 c.args.ip mainnet_v4
