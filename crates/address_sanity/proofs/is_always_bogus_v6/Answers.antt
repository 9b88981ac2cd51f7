-- `is_always_bogus_v6` meets its contract: its tests are those of the rows, the first two with the high half asked once.
-- a test, joined with those of the rows after the first two
use Prim.Native.Nat.{ℕ}
use mathlib.Core.Bool.{Bool, ◌||◌, and-or_distrib_left}
use mathlib.Core.List.{foldl}
use mathlib.Core.Path.{ap, ◌∙◌}
use lib.Dec.{eqb}
use lib.ListN.{drop}
use Rattle.address_sanity.specs.Ranges.{always_v6}
use Rattle.address_sanity.proofs.RowTests.{test_v6, some_v6}
use Rattle.address_sanity.proofs.is_always_bogus_v6.Goals as goal

abbrev beforeOthers : ℕ → ℕ → Bool → Bool
unfolding always_v6
beforeOthers high low t = foldl (λ t row. t || test_v6 high low row) t (drop 2 always_v6)

pub returns : goal.returns
unfolding always_v6
returns c =
    ap (beforeOthers c.args.high c.args.low) (and-or_distrib_left (eqb c.args.high 0) (eqb c.args.low 1) (eqb c.args.low 0))
    ∙ some_v6 c.args.high c.args.low c.ranges.low.fits always_v6
