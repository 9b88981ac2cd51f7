-- What is given says what the reading says, for every network and Peers cap. The statements alone; `ValuesTheoremsProved` proves them.
use Rattle.std.specs.Prelude.{ℕ, List, map, ◌≡◌}
use Rattle.wire.specs.Reader.{got}
use Rattle.types.specs.declared.Network.{Network}
use Rattle.frame_read.specs.Answers.{part_in}
use Rattle.messages.specs.Message.{Message, message}
use Rattle.messages_read.specs.Values.{ListGiven}
use Rattle.walk.specs.Walk.{clean, Reading}
use Rattle.walk.specs.Session.{session_reading}
use Rattle.walk.specs.WrittenSession.{Write, write_value, Done, session_bytes, HandshakeFirst, item_values}
use Rattle.walk.specs.Calls.{Calls}
use Rattle.walk_read.specs.declared.MessageItem.{MessageItem}
use Rattle.walk_read.specs.declared.StepRead.{StepRead}
use Rattle.walk_read.specs.declared.StepRead.TheVariants as StepReads
use Rattle.walk_read.specs.Given.{given, GivenFrom}
use Rattle.walk_read.specs.Values.{given_values, verdict_given}

module _ (network : Network) (cap : ℕ) where
  -- The values that a caller puts together from what the steps and the readers by index give are those of the reading's items, in order.
  abbrev pub GivenSaysReading : Type 0
  GivenSaysReading =
      (s : List ℕ) (r : Reading StepRead) → GivenFrom network cap s 0 r → given_values cap s r.items ≡ item_values (session_reading network cap s).items

  -- The verdicts that are given are those of the reading's items, in order.
  abbrev pub GivenVerdicts : Type 0
  GivenVerdicts =
      (s : List ℕ) (r : Reading StepRead) → GivenFrom network cap s 0 r
      → map (λ i. verdict_given i.holds) r.items ≡ map (λ i. i.holds.verdict) (session_reading network cap s).items

  -- The list of a message, given at any place: as many items as are counted, read from the given place on, are those that the body is read to.
  abbrev pub GivenLists : Type 0
  GivenLists =
      (s : List ℕ) (at : ℕ) (i : MessageItem) → given network cap s at ≡ StepReads.Message i
      → (m : Message) × (end : ℕ) × (message cap i.code (part_in s i.body) 0 ≡ got m end) × ListGiven (part_in s i.body) end m i.message

  -- Written sessions as given: over the bytes of every list of calls as in `ReadsAsWritten`, the values that a caller puts together from what the steps
  -- and the readers by index give are the accepted writes', in order, and the steps end cleanly.
  abbrev pub GivenAsWritten : Type 0
  GivenAsWritten =
      (ws : List Write) (out : List ℕ) (d : Done) → Calls network cap ws out 0 d → HandshakeFirst d.accepted
      → (r : Reading StepRead) → GivenFrom network cap (session_bytes d) 0 r
      → (given_values cap (session_bytes d) r.items ≡ map write_value d.accepted) × (r.ending ≡ clean)
