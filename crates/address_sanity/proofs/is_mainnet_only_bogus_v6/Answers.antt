-- `is_mainnet_only_bogus_v6` meets its contract: its tests are those of the rows.
use Rattle.address_sanity.specs.Ranges.{mainnet_v6}
use Rattle.address_sanity.proofs.RowTests.{some_v6}
use Rattle.address_sanity.proofs.is_mainnet_only_bogus_v6.Goals as goal

pub returns : goal.returns
unfolding mainnet_v6
returns c = some_v6 c.args.high c.args.low c.ranges.low.fits mainnet_v6
