-- The theorems on values, from the laws of what is given of an item: the answers of the steps are the session's reading as it is given.
use Rattle.std.specs.Prelude.{ℕ}
use Rattle.std.proofs.Common.{◌∙◌}
use Rattle.types.specs.declared.Network.{Network}
use Rattle.walk.proofs.TheoremsProved.{reads_as_written}
use Rattle.walk.specs.WrittenSession.{session_bytes}
use Rattle.walk_read.specs.Given.{given_reading}
use Rattle.walk_read.proofs.GivenTheoremsProved.{given_are_reading}
use Rattle.walk_read.proofs.ReachedLaws.{reached_list}
use Rattle.walk_read.proofs.ValuesLaws.{items-given, verdicts_given}
use Rattle.walk_read.specs.ValuesTheorems.{GivenSaysReading, GivenVerdicts, GivenLists, GivenAsWritten}

module _ (network : Network) (cap : ℕ) where
  pub given-says-reading : GivenSaysReading network cap
  unfolding given_reading
  given-says-reading s r g = rw ((given_are_reading network cap s r).0 g) (items-given network cap s)

  pub given_verdicts : GivenVerdicts network cap
  unfolding given_reading
  given_verdicts s r g = rw ((given_are_reading network cap s r).0 g) (verdicts_given network cap s)

  pub given_lists : GivenLists network cap
  given_lists s at i q = reached_list network cap s at i q

  pub given_as_written : GivenAsWritten network cap
  unfolding given_reading
  given_as_written ws out d calls first r g =
      let w = reads_as_written network cap ws out d calls first in
      (given-says-reading (session_bytes d) r g ∙ w.0, rw ((given_are_reading network cap (session_bytes d) r).0 g) w.1)
