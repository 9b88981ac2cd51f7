-- `walk_read::open_frame` meets its contract: what the body was read as.
use Prim.Native.Nat.{◌+◌, ◌-◌}
use native.Mathlib.Omega.{arith}
use mathlib.Core.Path.{◌≡◌, sym, ◌∙◌}
use Rattle.walk_read.proofs.StepsLaws.{body-got, body_refused}
use Rattle.walk_read.proofs.open_frame.Goals as goal

pub returns-in-Ok : goal.returns-in-Ok
returns-in-Ok c =
    let z : c.args.frame.body.start.0 + c.args.frame.body.len - c.args.frame.body.start.0 ≡ c.args.frame.body.len = omega arith in
    body-got c.args.network c.args.start c.args.end _ _ _ (rw z at (sym c.in-Ok.ensures))

pub returns-in-Err : goal.returns-in-Err
returns-in-Err c =
    let z : c.args.frame.body.start.0 + c.args.frame.body.len - c.args.frame.body.start.0 ≡ c.args.frame.body.len = omega arith in
    c.stopped.ensures ∙ body_refused c.args.network c.args.start c.args.end _ _ _ (rw z at (sym c.in-Err.ensures))
