-- `vlq::Cursor::read_vlq` meets its contract. The loop's invariant and what follows from it stand in `VlqLoop`.
use Prim.Native.Nat.{◌%◌}
use native.Mathlib.Omega.{arith}
use Rattle.vlq.proofs.VlqLoop.{vlq-outside, vlq-start, vlq-weight, vlq-fits, vlq_tenth_weight, vlq_missing, vlq_nine, vlq-end, vlq_again, vlq_tenth, vlq_long}
use Rattle.vlq.proofs.Cursor.read_vlq.Goals as goal

pub returns-then-s-at : goal.returns-then-s-at
returns-then-s-at c = vlq-outside c.args.s.now c.args.self.at c.if-s-at.true

pub loop-i-init : goal.loop-i-init
loop-i-init c = vlq-start _ _ (omega arith)

pub returns-then-s-at-2 : goal.returns-then-s-at-2
returns-then-s-at-2 c = vlq_missing c.loop-i.invariant c.if-s-at-2.true

pub overflow_mul-result : goal.overflow_mul-result
overflow_mul-result c = omega (arith, vlq-fits c.loop-i.invariant c.from-b.result (omega arith) (omega arith))

pub overflow_add-result : goal.overflow_add-result
overflow_add-result c = omega (arith, vlq-fits c.loop-i.invariant c.from-b.result (omega arith) (omega arith))

pub returns-then-b-lt128 : goal.returns-then-b-lt128
returns-then-b-lt128 c = vlq-end c.loop-i.invariant c.from-b.result c.from-b.ensures (omega arith) c.if-b-lt128.true (omega arith)

pub overflow_mul-sum : goal.overflow_mul-sum
overflow_mul-sum c = omega (arith, vlq-fits c.loop-i.invariant (c.from-b.result % 128) (omega arith) (omega arith))

pub overflow_add-sum : goal.overflow_add-sum
overflow_add-sum c = omega (arith, vlq-fits c.loop-i.invariant (c.from-b.result % 128) (omega arith) (omega arith))

pub overflow_mul-weight : goal.overflow_mul-weight
overflow_mul-weight c = omega (arith, vlq-weight c.loop-i.invariant (omega arith))

pub loop-i-preserved : goal.loop-i-preserved
loop-i-preserved c = vlq_again c.loop-i.invariant c.from-b.result c.from-b.ensures (omega arith) c.if-b-lt128.false (omega arith)

pub returns-then-s-last : goal.returns-then-s-last
returns-then-s-last c = vlq_missing (vlq_nine c.loop-i.invariant (omega arith)) c.if-s-last.true

pub overflow_mul-result-then-b-lt128-2 : goal.overflow_mul-result-then-b-lt128-2
overflow_mul-result-then-b-lt128-2 c = rw (vlq_tenth_weight c.loop-i.invariant (omega arith)) (omega arith)

pub returns-then-b-lt128-2 : goal.returns-then-b-lt128-2
returns-then-b-lt128-2 c =
    vlq_tenth (vlq_nine c.loop-i.invariant (omega arith)) c.from-b-2.result c.from-b-2.ensures (omega arith) c.if-b-lt128-2.true (omega arith)

pub returns-else-b-lt128-2 : goal.returns-else-b-lt128-2
returns-else-b-lt128-2 c =
    vlq_long (vlq_nine c.loop-i.invariant (omega arith)) c.from-b-2.result c.from-b-2.ensures (omega arith) c.if-b-lt128-2.false (omega arith)
