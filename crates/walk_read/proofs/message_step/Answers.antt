-- `walk_read::message_step` meets its contract: the frame opened as a message, or the number of its refusal.
use mathlib.Core.Path.{sym, ◌∙◌}
use Rattle.wire.proofs.ReaderLaws.{map-got, map-refused}
use Rattle.frame_read.specs.Answers.{frame_of}
use Rattle.walk_read.proofs.StepsLaws.{frame-inside, frame_opened, frame_refused}
use Rattle.walk_read.proofs.message_step.Goals as goal

pub open_frame-requires : goal.open_frame-requires
open_frame-requires c =
    let e = map-got frame_of (sym c.in-Ok.ensures) in
    rw (← e.2) (frame-inside c.args.network c.args.cap c.args.s.now c.args.start.0 e.1)

pub returns-in-Ok : goal.returns-in-Ok
returns-in-Ok c =
    let e = map-got frame_of (sym c.in-Ok.ensures) in
    c.open_frame.ensures ∙ frame_opened c.args.network c.args.cap c.args.s.now c.args.start.0 e.1 e.2

pub returns-in-Err : goal.returns-in-Err
returns-in-Err c =
    c.stopped.ensures ∙ frame_refused c.args.network c.args.cap c.args.s.now c.args.start.0 (map-refused frame_of (sym c.in-Err.ensures))
