-- The theorems on what is given, from those of the walk: the steps of a reading and its cut rule, seen through what is
-- given of an item.
use Rattle.std.specs.Prelude.{ℕ, List, refl, take}
use Rattle.types.specs.declared.Network.{Network}
use Rattle.walk.proofs.CallsLaws.{answers_once}
use Rattle.walk.specs.Session.{session_reading}
use Rattle.walk.proofs.TheoremsProved.{steps_are_reading, cut_anywhere}
use Rattle.walk_read.specs.Given.{GivenFrom, item_given, given_reading}
use Rattle.walk_read.specs.GivenTheorems.{GivenAreReading, GivenByCut, ReachedByIndex}
use Rattle.walk_read.proofs.GivenLaws.{seen_rule, given-ends, given-cut, steps-given}
use Rattle.walk_read.proofs.ReachedLaws.{reached_body, reached_entry}

module _ (network : Network) (cap : ℕ) where
  given-from : (s : List ℕ) → GivenFrom network cap s 0 (given_reading network cap s)
  unfolding given_reading
  given-from s = steps-given network cap s ((steps_are_reading network cap s (session_reading network cap s)).1 refl)

  pub given_are_reading : GivenAreReading network cap
  given_are_reading s r = (λ g. answers_once g (given-from s), λ e. rw e (given-from s))

  pub given_by_cut : GivenByCut network cap
  unfolding given_reading
  given_by_cut s k h full part f p =
      rw ((given_are_reading s full).0 f, (given_are_reading (take k s) part).0 p)
      (seen_rule k (item_given network s) (item_given network (take k s)) (given-ends network s) (given-ends network (take k s)) (given-cut network k s)
      (session_reading network cap s) (session_reading network cap (take k s)) (cut_anywhere network cap s k h))

  pub reached_by_index : ReachedByIndex network cap
  reached_by_index s k at h = (reached_body network cap s k at h, reached_entry network cap s k at h)
