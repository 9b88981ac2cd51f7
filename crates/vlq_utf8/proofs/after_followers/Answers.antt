-- `vlq_utf8::after_followers` meets its contract: each turn is one step of utf8_from (`proofs/Walk.antt`).
use Rattle.std.proofs.Common.{sym, arith}
use Rattle.vlq_utf8.proofs.Walk.{at_low, at_high, at-follower, at-cut, at-done}
use Rattle.vlq_utf8.proofs.after_followers.Goals as goal
use Rattle.vlq_utf8.proofs.after_followers.Goals.{then-b-low-via-then-b-low, then-b-low-via-else-b-low+then-high-b, then-loop-left-test+else-next-s, else-loop-left-test}

pub returns-then-b-low : goal.returns-then-b-low
returns-then-b-low c =
    elim c.then-b-low.branch [
      | then-b-low-via-then-b-low w ↦ sym (at_low c.loop-left.invariant.1 c.if-next-s.true (omega arith) w.if-b-low.true)
      | then-b-low-via-else-b-low+then-high-b w ↦ sym (at_high c.loop-left.invariant.1 c.if-next-s.true (omega arith) w.if-b-low.false w.if-high-b.true)
    ]

pub loop-left-preserved : goal.loop-left-preserved
loop-left-preserved c = (omega arith, at-follower c.loop-left.invariant.1 c.if-next-s.true (omega arith) c.if-b-low.false c.if-high-b.false)

pub returns-then-left-eq0 : goal.returns-then-left-eq0
returns-then-left-eq0 c = (c.loop-left.invariant.0, c.loop-left.invariant.1.inside, at-done c.loop-left.invariant.1 c.if-left-eq0.true)

pub returns-else-left-eq0 : goal.returns-else-left-eq0
returns-else-left-eq0 c =
    elim c.loop-left-test.branch [
      | then-loop-left-test+else-next-s w ↦ sym (at-cut c.loop-left.invariant.1 w.if-next-s.false c.if-left-eq0.false)
      | else-loop-left-test w ↦ absurd (c.if-left-eq0.false (omega arith))
    ]
