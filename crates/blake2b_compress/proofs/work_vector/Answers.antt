-- The stores are F's lines before the rounds; the counter's words are its remainder and its quotient. Assumes nothing.
use Rattle.std.proofs.Common.{◌≡◌, ℕ, ◌+◌, ◌*◌, ◌/◌, ◌%◌, ◌^◌, ◌<◌, Bool, true, false, List, ◌++◌, set, arith}
use Rattle.blake2b.specs.Blake2b.{◌⊕◌, ◌!◌, IV, flagged}
use Rattle.blake2b_compress.specs.Parts.{work}
use Rattle.blake2b_compress.proofs.work_vector.Goals as goal

abbrev counter : List ℕ → ℕ → ℕ → List ℕ
counter v low high =
    let v : List ℕ = set v 12 (v ! 12 ⊕ low) in
    set v 13 (v ! 13 ⊕ high)

law : (h k v : List ℕ) (low high : ℕ) (f : Bool) → low < 2 ^ 64 → k ≡ IV → v ≡ h ++ k → flagged f (counter v low high) ≡ work h (low + high * 2 ^ 64) f
unfolding work
law h k v low high f l ek ev =
    let e : (low + high * 2 ^ 64) % 2 ^ 64 ≡ low = omega arith in
    let g : (low + high * 2 ^ 64) / 2 ^ 64 ≡ high = omega arith in
    rw (ev, ek, e, g)

pub returns-then-f : goal.returns-then-f
unfolding flagged
returns-then-f c =
    rw c.if-f.true
    (law c.args.h _ _ c.args.low c.args.high true (omega arith) c.iv.ensures
    c.halves-v.ensures)

pub returns-else-f : goal.returns-else-f
unfolding flagged
returns-else-f c =
    rw c.if-f.false
    (law c.args.h _ _ c.args.low c.args.high false (omega arith) c.iv.ensures
    c.halves-v.ensures)
