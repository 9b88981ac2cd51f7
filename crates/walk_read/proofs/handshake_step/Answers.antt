-- `walk_read::handshake_step` meets its contract: the handshake and the verdict on it, or the number of its refusal.
use mathlib.Core.Path.{sym, ◌∙◌}
use Rattle.wire.proofs.ReaderLaws.{map-got, map-refused}
use Rattle.handshake_read.specs.Answers.{handshake_of}
use Rattle.walk_read.proofs.StepsLaws.{handshake-read, handshake-refused}
use Rattle.walk_read.proofs.handshake_step.Goals as goal

pub returns-in-Ok : goal.returns-in-Ok
returns-in-Ok c =
    let e = map-got handshake_of (sym c.in-Ok.ensures) in
    handshake-read c.args.network c.args.s.now e.1 e.2 (c.number-verdict.ensures ∙ c.peer_verdict.ensures)

pub returns-in-Err : goal.returns-in-Err
returns-in-Err c = c.stopped.ensures ∙ handshake-refused c.args.network c.args.s.now (map-refused handshake_of (sym c.in-Err.ensures))
