-- What `next_line` stores and gives: the line of the step at a place, and where the next step is made.
use Rattle.std.specs.Prelude.{ℕ, List, length}
use Rattle.std.specs.declared.ops.ControlFlow.{ControlFlow}
use Rattle.std.specs.declared.ops.ControlFlow.TheVariants.{Continue, Break}
use Rattle.types.specs.declared.Network.{Network}
use Rattle.types.specs.declared.StreamPlace.{StreamPlace}
use Rattle.walk.specs.Session.{session_step}
use Rattle.walk_read.specs.Steps.{stream_place, step_of}
use Rattle.walk_read.specs.declared.StepRead.{StepRead}
use Rattle.walk_read.specs.declared.StepRead.TheVariants as StepReads
use Rattle.report_lines.specs.StepLines.{line_of}
use Rattle.report_lines.specs.declared.Next.{Next}

-- the next step is at an item's end; the clean end and a stop are the last, at their own place
abbrev pub step_next : StepRead → StreamPlace → ControlFlow StreamPlace StreamPlace
step_next (StepReads.Handshake i) at = Continue i.end
step_next (StepReads.Message i) at = Continue i.end
step_next StepReads.End at = Break at
step_next (StepReads.Stop t) at = Break at
step_next StepReads.Outside at = Break at

abbrev pub next_of : StepRead → StreamPlace → ℕ → Next
next_of r at n = record { len = length (line_of r n); at = step_next r at }

module _ (network : Network) (cap : ℕ) (s : List ℕ) where
  -- what `next_line` stores and gives at a place
  abbrev pub line_at : ℕ → List ℕ
  line_at at = line_of (step_of network s (session_step network cap s at)) (length s)

  abbrev pub next_at : ℕ → Next
  next_at at = next_of (step_of network s (session_step network cap s at)) (stream_place at) (length s)
