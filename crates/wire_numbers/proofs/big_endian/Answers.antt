-- `wire_numbers::big_endian` meets its contract. The loop's invariant and what follows from it stand in `NumberLaws`.
use Rattle.std.proofs.Common.{arith}
use Rattle.wire_numbers.proofs.NumberLaws.{number-start, number-again, number-end, modulo-start, modulo-again, modulo-end}
use Rattle.wire_numbers.proofs.big_endian.Goals as goal

pub loop-byte-init : goal.loop-byte-init
loop-byte-init g c =
    record {
      short = λ h. rw (c.into_iter-byte-iterator.ensures.into_iter_gives, c.take-byte-items.ensures.source, c.take-byte-items.ensures.count, c.iter.ensures.rest) (number-start g.row.N c.args.s.now h);
      any = rw (c.into_iter-byte-iterator.ensures.into_iter_gives, c.take-byte-items.ensures.source, c.take-byte-items.ensures.count, c.iter.ensures.rest) (modulo-start g.row.N c.args.s.now);
    }

pub loop-byte-preserved : goal.loop-byte-preserved
loop-byte-preserved g c =
    record {
      short = λ h. number-again (c.loop-byte.invariant.short h) c.from.result (omega arith) (rw c.from.ensures c.in-Some.ensures.steps.0) c.in-Some.ensures.steps.1;
      any = modulo-again c.loop-byte.invariant.any c.from.result (rw c.from.ensures c.in-Some.ensures.steps.0) c.in-Some.ensures.steps.1;
    }

pub returns-clause-modulo : goal.returns-clause-modulo
returns-clause-modulo g c = modulo-end c.loop-byte.invariant.any (omega arith) (λ p. (c.in-None.ensures.steps p).0)

pub returns-clause-number : goal.returns-clause-number
returns-clause-number g c = λ h. (number-end (c.loop-byte.invariant.short h) (λ p. (c.in-None.ensures.steps p).0)).0

pub returns-clause-fits : goal.returns-clause-fits
returns-clause-fits g c = λ h. (number-end (c.loop-byte.invariant.short h) (λ p. (c.in-None.ensures.steps p).0)).1
