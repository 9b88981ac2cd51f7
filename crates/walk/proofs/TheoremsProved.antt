-- The theorems, from the laws of the walk, the cut rule and written sessions, and the session's readers and writers.
use Rattle.std.specs.Prelude.{ℕ, ◌≤◌, List, ◌++◌, ◌≡◌, length}
use Rattle.std.proofs.Common.{arith, length-append}
use Rattle.types.specs.declared.Network.{Network}
use Rattle.walk.specs.Walk.{walk, reading}
use Rattle.walk.specs.Session.{Content, handshake_at, message_at, session_reading}
use Rattle.walk.specs.Theorems.{StepsAreReading, CutAnywhere, PlacesHold, GoesOn, LineGrows, CallsAreWrites, ReadsAsWritten, OneMeaning, Ends}
use Rattle.walk.proofs.WalkLaws.{walks, walk_ends, walk_chained, walk-room}
use Rattle.walk.proofs.CutRuleLaws.{cut_rule}
use Rattle.walk.proofs.GrowsLaws.{items_then, grown}
use Rattle.walk.proofs.WrittenLaws.{written-reads, written_once}
use Rattle.walk.proofs.CallsLaws.{steps-from, calls-write-all, calls_typed}
use Rattle.walk.proofs.SessionLaws.{session_readers, session_writers}
use Rattle.walk.proofs.ItemsLaws.{items-placed}

module _ (network : Network) (cap : ℕ) where
  pub steps_are_reading : StepsAreReading network cap
  unfolding session_reading reading
  steps_are_reading s r = steps-from network cap s 0 (omega arith) r

  pub cut_anywhere : CutAnywhere network cap
  unfolding session_reading
  cut_anywhere = cut_rule (session_readers network cap)

  pub places_hold : PlacesHold network cap
  places_hold = items-placed network cap

  goes_on :
      (s t : List ℕ) (at : ℕ) → at ≤ length s
      → session_reading network cap (s ++ t)
      ≡ items_then (session_reading network cap s).items (walk Content (handshake_at network) (message_at network cap) (s ++ t) at)
      → GoesOn network cap s t at
  goes_on s t at h e =
      record { rest = _; steps = steps-from network cap (s ++ t) at (omega (arith, length-append s t)); whole = e }

  pub line_grows : LineGrows network cap
  unfolding session_reading reading
  line_grows s t =
      let g = grown (session_readers network cap) s t in
      record {
        stops = λ layer n at q. let r = g.stopping layer n at q in goes_on s t at r.0 r.1;
        ended = λ q. goes_on s t (length s) (omega arith) (g.ended q);
        stays = g.stays;
      }

  pub calls_are_writes : CallsAreWrites network cap
  calls_are_writes ws out d calls = calls-write-all network cap calls

  pub reads_as_written : ReadsAsWritten network cap
  reads_as_written ws out d calls =
      rw (calls-write-all network cap calls)
      (written-reads network cap 8 (session_readers network cap) (session_writers network cap) ws out (calls_typed network cap calls))

  pub one_meaning : OneMeaning network cap
  one_meaning ws ws' out out' d d' calls calls' =
      rw (calls-write-all network cap calls, calls-write-all network cap calls')
      (written_once network cap 8 (session_readers network cap) (session_writers network cap) ws ws' out out' (calls_typed network cap calls)
      (calls_typed network cap calls'))

  pub ends : Ends network cap
  unfolding session_reading reading
  ends s =
      let w = walks (session_readers network cap) s 0 (omega arith) in
      (walk_ends _ w, walk_chained _ w, omega (arith, walk-room _ (omega arith) w))
