-- What the code gives of a session: the answers of `step` from place 0 on, each next one at the end that the last answer
-- itself names.
use Rattle.std.specs.Prelude.{ℕ, List, map}
use Rattle.types.specs.declared.Network.{Network}
use Rattle.walk.specs.Walk as Walk
use Rattle.walk.specs.Walk.{Item, item, clean_end, stop, outside, Reading}
use Rattle.walk.specs.Session.{Content, session_step, session_reading}
use Rattle.walk.specs.Calls.{AnswersFrom}
use Rattle.walk_read.specs.Steps.{step_of}
use Rattle.walk_read.specs.declared.Layer.{Layer}
use Rattle.walk_read.specs.declared.Layer.TheVariants as Layers
use Rattle.walk_read.specs.declared.StepRead.{StepRead}
use Rattle.walk_read.specs.declared.StepRead.TheVariants as StepReads

-- the answer at a place, as the contract of `step` says it
unfoldable pub given : Network → ℕ → List ℕ → ℕ → StepRead
given network cap s at = step_of network s (session_step network cap s at)

abbrev pub layer_in : Layer → Walk.Layer
layer_in Layers.Handshake = Walk.handshake
layer_in Layers.Frame = Walk.frame
layer_in Layers.Body = Walk.body

-- an answer as a step of the walk: an item has the start and the end that the answer names, and holds the whole answer
unfoldable pub as_step : StepRead → Walk.Step StepRead
as_step (StepReads.Handshake i) = item (record { start = i.start.0; end = i.end.0; holds = StepReads.Handshake i })
as_step (StepReads.Message i) = item (record { start = i.start.0; end = i.end.0; holds = StepReads.Message i })
as_step StepReads.End = clean_end
as_step (StepReads.Stop t) = stop (layer_in t.layer) t.number t.start.0
as_step StepReads.Outside = outside

-- the answers from a place on
abbrev pub GivenFrom : Network → ℕ → List ℕ → ℕ → Reading StepRead → Type 0
GivenFrom network cap s = AnswersFrom (λ at. as_step (given network cap s at))

-- what is given of an item of the stream s
unfoldable pub item_given : Network → List ℕ → Item Content → Item StepRead
item_given network s i = record { start = i.start; end = i.end; holds = step_of network s (item i) }

-- a session's reading as it is given
unfoldable pub given_reading : Network → ℕ → List ℕ → Reading StepRead
given_reading network cap s =
    record { items = map (item_given network s) (session_reading network cap s).items; ending = (session_reading network cap s).ending }
