-- `vlq_write::put_vlq` meets its contract. The loop has written the low groups of the value; the bytes of the rest are still to be written.
use Prim.Native.Nat.{◌+◌, ◌%◌}
use native.Mathlib.Omega.{arith}
use mathlib.Core.List.{[], ◌∷◌}
use mathlib.Core.Path.{refl}
use lib.ListN.{length-set}
use Rattle.wire.proofs.OutputLaws.{writing_start, writing-turn, writing-end, wrote_byte}
use Rattle.vlq.proofs.VlqLaws.{vlq-last, vlq-more, vlq_pos}
use Rattle.vlq_write.proofs.put_vlq.Goals as goal

pub loop-rest-init : goal.loop-rest-init
loop-rest-init c = writing_start _ _ _

pub bounds-out-o : goal.bounds-out-o
bounds-out-o c = omega (arith, vlq_pos c.loop-rest.rest)

pub overflow_add-o : goal.overflow_add-o
overflow_add-o c = omega (arith, vlq_pos c.loop-rest.rest)

pub loop-rest-preserved : goal.loop-rest-preserved
loop-rest-preserved c = writing-turn ((c.loop-rest.rest % 0x80 + 0x80) ∷ []) _ (vlq-more c.loop-rest.rest c.loop-rest-test.true) c.loop-rest.invariant (wrote_byte c.loop-rest.out c.loop-rest.o (c.loop-rest.rest % 0x80 + 0x80))

pub bounds-out-o-2 : goal.bounds-out-o-2
bounds-out-o-2 c = omega (arith, vlq_pos c.loop-rest.rest)

pub overflow_add-result : goal.overflow_add-result
overflow_add-result c = omega (arith, vlq_pos c.loop-rest.rest)

pub shape_of-out : goal.shape_of-out
shape_of-out c = simp length-set (omega arith)

pub returns : goal.returns
returns c = writing-end refl (writing-turn (c.loop-rest.rest ∷ []) [] (vlq-last c.loop-rest.rest c.loop-rest-test.false) c.loop-rest.invariant (wrote_byte c.loop-rest.out c.loop-rest.o c.loop-rest.rest))
