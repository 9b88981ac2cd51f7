-- `is_always_bogus_v4` meets its contract: its tests are those of the rows.
use Rattle.address_sanity.specs.Ranges.{always_v4}
use Rattle.address_sanity.proofs.RowTests.{some_v4}
use Rattle.address_sanity.proofs.is_always_bogus_v4.Goals as goal

pub returns : goal.returns
unfolding always_v4
returns c = some_v4 c.args.ip always_v4
