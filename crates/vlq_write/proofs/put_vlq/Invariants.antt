-- `vlq_write::put_vlq` meets its contract. The loop has written the low groups of the value; the bytes of the rest are still to be written.
use Rattle.wire.proofs.OutputLaws.{Writing}
use Rattle.vlq.specs.Vlq.{vlq_bytes}
use Rattle.vlq_write.proofs.put_vlq.Given as goal

abbrev pub invariant-loop-rest : goal.invariant-loop-rest
invariant-loop-rest l = Writing l.initial.out l.at (vlq_bytes l.value) l.o l.out (vlq_bytes l.rest)

abbrev pub decreases-loop-rest : goal.decreases-loop-rest
decreases-loop-rest l = l.rest
