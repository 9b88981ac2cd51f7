-- `wire_part_write::put_blocks` meets its contract: each turn stores a block more, and the last 64 bytes go over what
-- is left.
use Rattle.std.proofs.Common.{◌≡◌, ℕ, ◌+◌, ◌*◌, ◌≤◌, List, ◌++◌, length, take, drop, arith, add-zero, sym, ap, refl, ◌∙◌, take-add, length-take-le}
use Rattle.wire.specs.Output.{put, Wrote}
use Rattle.wire.proofs.OutputLaws.{wrote_none, wrote_then, wrote_length}
use Rattle.wire_part_write.specs.LastBlockLaws.{last_block}
use Rattle.wire_part_write.proofs.put_blocks.Goals as goal

next : {out : List ℕ} {at : ℕ} {mid : List ℕ} {b : List ℕ} {e : ℕ} {last : List ℕ} (s : List ℕ) (k : ℕ) → 64 * k + 64 ≤ length s → b ≡ take 64 (drop (64 * k) s)
    → Wrote out at (take (64 * k) s) (at + 64 * k) mid → Wrote mid (at + 64 * k) b e last → Wrote out at (take (64 * (k + 1)) s) (at + 64 * (k + 1)) last
next {out} {at} {mid} {b} {e} {last} s k h p v w =
    let i : ℕ = 64 * k in
    let t : 64 * (k + 1) ≡ 64 * k + 64 = omega arith in
    rw t
    (record {
      end = omega (arith, length-take-le (64 * k + 64) s h);
      bytes = (wrote_then v w).bytes ∙ ap (λ (x : List ℕ). put out at (take (64 * k) s ++ x)) p ∙ ap (put out at) (sym (take-add (64 * k) 64 s));
    })

pub loop-k-init : goal.loop-k-init
loop-k-init c = (refl, rw add-zero (wrote_none _ _))

pub loop-k-preserved : goal.loop-k-preserved
loop-k-preserved c = (
  wrote_length c.copy_part.ensures ∙ c.loop-k.invariant.0,
  next c.args.s.now c.loop-k.k (omega (arith, c.loop-k-test.true)) c.block_at-block.ensures c.loop-k.invariant.1 c.copy_part.ensures,
)

pub returns : goal.returns
returns c =
    last_block 64 c.args.s.now (64 * c.loop-k.k) c.requires.s_len_bound (omega (arith, c.loop-k-test.false)) (omega (arith, c.loop-k.auto.k-end))
    c.requires.s_in_bounds c.loop-k.invariant.1 c.block_at-last.ensures c.copy_part-2.ensures
