-- The loop's invariant: after i turns the first i blocks are absorbed. Assumes nothing.
use Rattle.std.proofs.Common.{◌≡◌, ℕ, ◌+◌, ◌*◌, ◌≤◌, List, length, drop, refl, ap, ◌∙◌, add-one, arith}
use Rattle.blake2b_hash.specs.declared.Hash.{Hash}
use Rattle.blake2b.specs.Blake2b.{bb, for, words}
use Rattle.blake2b.proofs.Blake2bLaws.{d-whole}
use Rattle.blake2b_hash.specs.Running.{advanced, absorbed}
use Rattle.blake2b_hash.proofs.Counter.{advanced-words}
use Rattle.blake2b_hash.proofs.absorb.Invariants.{hash}
use Rattle.blake2b_hash.proofs.absorb.Goals as goal

one_more : (x y z : Hash) (s m : List ℕ) (i : ℕ) → i * bb + bb ≤ length s → y ≡ absorbed x s i → m ≡ words 16 (drop (i * bb) s) → z ≡ advanced y m
    → z ≡ absorbed x s (i + 1)
unfolding absorbed for
one_more x y z s m i l ey em ez = rw add-one (rw (ez, ey, em, d-whole s i l))

pub loop-i-init : goal.loop-i-init
unfolding absorbed for
loop-i-init c = (omega arith, refl)

pub loop-i-preserved : goal.loop-i-preserved
loop-i-preserved c = (
  omega arith,
  one_more _ (hash c.loop-i.h c.loop-i.t0 c.loop-i.t1) _ _ _ _ (omega arith) c.loop-i.invariant.1
      c.load-m.ensures
      (advanced-words (hash c.loop-i.h c.loop-i.t0 c.loop-i.t1) _ _ _ _ c.wrapping_add_u64-t0.ensures.value c.high-t1.ensures
      c.compress_at.ensures),
)

pub returns : goal.returns
returns c =
    let e : c.loop-i.i ≡ c.args.n = omega arith in
    c.loop-i.invariant.1 ∙ ap (absorbed _ _) e
