-- The high word is one more exactly where the low word wraps. Assumes nothing.
use Rattle.std.proofs.Common.{◌≡◌, ℕ, ◌+◌, ◌/◌, ◌%◌, ◌^◌, ◌<◌, ◌≤◌, sym, ap, ◌∙◌, arith}
use Rattle.blake2b_hash.proofs.high.Goals as goal

wraps : (a n s : ℕ) → a < 2 ^ 64 → n < 2 ^ 64 → s ≡ (a + n) % 2 ^ 64 → s < n → (a + n) / 2 ^ 64 ≡ 1
wraps a n s la ln e l = omega arith

stays : (a n s : ℕ) → a < 2 ^ 64 → n < 2 ^ 64 → s ≡ (a + n) % 2 ^ 64 → n ≤ s → (a + n) / 2 ^ 64 ≡ 0
stays a n s la ln e l = omega arith

pub returns-then-wrapping_add_u64-n : goal.returns-then-wrapping_add_u64-n
returns-then-wrapping_add_u64-n c =
    let e = wraps _ _ _ c.ranges.t0.fits c.ranges.n.fits c.wrapping_add_u64.ensures.value c.if-wrapping_add_u64-n.true in
    c.wrapping_add_u64-then-wrapping_add_u64-n.ensures.value ∙ ap (λ (k : ℕ). (c.args.t1 + k) % 2 ^ 64) (sym e)

pub returns-else-wrapping_add_u64-n : goal.returns-else-wrapping_add_u64-n
returns-else-wrapping_add_u64-n c =
    let e = stays _ _ _ c.ranges.t0.fits c.ranges.n.fits c.wrapping_add_u64.ensures.value c.if-wrapping_add_u64-n.false in
    omega arith
