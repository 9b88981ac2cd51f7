-- The loop over a VLQ's first nine bytes keeps the sum of the groups so far and the weight of the next one.
-- What is still to be read, added at that weight, is what the whole VLQ is read to.
use Prim.Native.Nat.{ℕ, zero, suc, ◌+◌, ◌-◌, ◌*◌, ◌%◌, ◌^◌, ◌<◌, ◌≤◌}
use native.Mathlib.Nat.{add-zero, pow-suc, pow-le-pow_right, mul-le-mul_right, mod-eq_of_lt, mul_assoc, mul_comm, add-mul}
use native.Mathlib.Numerals.{add-one}
use native.Mathlib.Omega.{arith}
use mathlib.Core.List.{List}
use mathlib.Core.Path.{◌≡◌, refl, ap, sym, ◌∙◌}
use lib.ListN.{length, get_or}
use borrow.Author.Tests.{lt-ltb, le-ltb}
use Rattle.wire.specs.Reader.{Answer, got, refused, bind}
use Rattle.wire.proofs.ReaderLaws.{byte-got, byte_missing, byte-outside}
use Rattle.vlq.specs.Vlq.{groups, vlq}

-- what is read where at most n bytes may come, the groups so far come to sum, and the next one weighs weight
unfoldable pub added : ℕ → ℕ → ℕ → List ℕ → ℕ → Answer ℕ
added n sum weight s at = bind (groups n s at) (λ rest next. got ((sum + rest * weight) % 2 ^ 64) next)

added_missing : (n sum weight : ℕ) (s : List ℕ) (at : ℕ) → 0 < n → at ≡ length s → added n sum weight s at ≡ refused 1
unfolding added groups
added_missing zero sum weight s at hn h = absurd (omega arith)
added_missing (suc n) sum weight s at hn h = rw (byte_missing s at h)

added-last : (n sum weight : ℕ) (s : List ℕ) (at : ℕ) → 0 < n → at < length s → get_or s at 0 < 0x80
    → added n sum weight s at ≡ got ((sum + get_or s at 0 * weight) % 2 ^ 64) (at + 1)
unfolding added groups
added-last zero sum weight s at hn h hb = absurd (omega arith)
added-last (suc n) sum weight s at hn h hb = rw (byte-got s at h, lt-ltb (get_or s at 0) 0x80 hb)

regroup : (sum g rest weight : ℕ) → sum + (g + 0x80 * rest) * weight ≡ sum + g * weight + rest * (weight * 0x80)
regroup sum g rest weight =
    let e : (g + 0x80 * rest) * weight ≡ g * weight + 0x80 * rest * weight = add-mul g (0x80 * rest) weight in
    let f : 0x80 * rest * weight ≡ rest * (weight * 0x80) = ap (λ (x : ℕ). x * weight) (mul_comm 0x80 rest) ∙ mul_assoc rest 0x80 weight ∙ ap (λ (x : ℕ). rest * x) (mul_comm 0x80 weight) in
    omega arith

after_group : (sum g weight : ℕ) (r : Answer ℕ)
    → bind (bind r (λ rest next. got (g + 0x80 * rest) next)) (λ rest next. got ((sum + rest * weight) % 2 ^ 64) next)
    ≡ bind r (λ rest next. got ((sum + g * weight + rest * (weight * 0x80)) % 2 ^ 64) next)
after_group sum g weight (got rest next) = ap (λ (x : ℕ). got (x % 2 ^ 64) next) (regroup sum g rest weight)
after_group sum g weight (refused m) = refl

added_more : (n sum weight : ℕ) (s : List ℕ) (at : ℕ) → at < length s → 0x80 ≤ get_or s at 0
    → added (suc n) sum weight s at ≡ added n (sum + (get_or s at 0 % 0x80) * weight) (weight * 0x80) s (at + 1)
unfolding added groups
added_more n sum weight s at h hb = rw (byte-got s at h, le-ltb (get_or s at 0) 0x80 hb) (after_group sum (get_or s at 0 % 0x80) weight (groups n s (at + 1)))

added_long : (sum weight : ℕ) (s : List ℕ) (at : ℕ) → added 0 sum weight s at ≡ refused 2
unfolding added groups
added_long sum weight s at = refl

pub vlq-outside : (s : List ℕ) (at : ℕ) → length s < at → refused 12 ≡ vlq s at
unfolding vlq groups
vlq-outside s at h = rw (byte-outside s at h)

-- i bytes were read from at on
pub record VlqSoFar (s : List ℕ) (at sum weight i : ℕ) : Type 0 where
  pub few : i ≤ 9
  pub inside : at + i ≤ length s
  pub power : weight ≡ 0x80 ^ i
  pub below : sum < weight
  pub same : vlq s at ≡ added (10 - i) sum weight s (at + i)

whole : (r : Answer ℕ) → bind r (λ rest next. got (rest % 2 ^ 64) next) ≡ bind r (λ rest next. got ((0 + rest * 1) % 2 ^ 64) next)
whole (got rest next) = ap (λ (x : ℕ). got (x % 2 ^ 64) next) (omega arith)
whole (refused m) = refl

pub vlq-start : (s : List ℕ) (at : ℕ) → at ≤ length s → VlqSoFar s at 0 1 0
unfolding vlq added
vlq-start s at h = record { few = omega arith; inside = omega arith; power = refl; below = omega arith; same = rw (add-zero at) (whole (groups 10 s at)) }

weight-le : (i weight : ℕ) → i < 9 → weight ≡ 0x80 ^ i → weight ≤ 2 ^ 56
weight-le i weight h e = rw e (pow-le-pow_right {n = 0x80} (omega arith) {i = i} {j = 8} (omega arith))

tenth : (sum b : ℕ) → sum < 2 ^ 63 → (sum + b * 2 ^ 63) % 2 ^ 64 ≡ sum + (b % 2) * 2 ^ 63
tenth sum b h = omega arith

module _ {s : List ℕ} {at sum weight i : ℕ} (inv : VlqSoFar s at sum weight i) where
  -- after the loop
  pub vlq_nine : 9 ≤ i → VlqSoFar s at sum weight 9
  vlq_nine h = let e : i ≡ 9 = omega (arith, inv.few) in rw e at inv

  pub vlq-weight : i < 9 → weight ≤ 2 ^ 56
  vlq-weight h = weight-le i weight h inv.power

  -- a group at its weight fits, and so does the sum
  pub vlq-fits : (g : ℕ) → i < 9 → g < 0x80 → sum + g * weight < 2 ^ 63
  vlq-fits g h hg =
      let w : weight ≤ 2 ^ 56 = vlq-weight h in
      omega (arith, mul-le-mul_right {m = g} {n = 0x7f} weight (omega arith), inv.below)

  pub vlq_tenth_weight : 9 ≤ i → weight ≡ 2 ^ 63
  vlq_tenth_weight h = let e : i ≡ 9 = omega (arith, inv.few) in inv.power ∙ ap (λ (k : ℕ). 0x80 ^ k) e

  pub vlq_tenth_below : 9 ≤ i → sum < 2 ^ 63
  vlq_tenth_below h = let w : weight ≡ 2 ^ 63 = vlq_tenth_weight h in omega (arith, inv.below)

  pub vlq_missing : length s ≤ at + i → refused 1 ≡ vlq s at
  vlq_missing h = sym (inv.same ∙ added_missing (10 - i) sum weight s (at + i) (omega (arith, inv.few)) (omega (arith, inv.inside)))

  pub vlq-end : (b : ℕ) → b ≡ get_or s (at + i) 0 → at + i < length s → b < 0x80 → i < 9 → got (sum + b * weight) (at + i + 1) ≡ vlq s at
  vlq-end b e h hb hi =
      let f : (sum + b * weight) % 2 ^ 64 ≡ sum + b * weight = mod-eq_of_lt (omega (arith, vlq-fits b hi hb)) in
      let r : added (10 - i) sum weight s (at + i) ≡ got ((sum + get_or s (at + i) 0 * weight) % 2 ^ 64) (at + i + 1)
      = added-last (10 - i) sum weight s (at + i) (omega arith) h (omega arith) in
      cc inv.same

  pub vlq_again : (b : ℕ) → b ≡ get_or s (at + i) 0 → at + i < length s → 0x80 ≤ b → i < 9
      → VlqSoFar s at (sum + (b % 0x80) * weight) (weight * 0x80) (i + 1)
  vlq_again b e h hb hi = record {
    few = omega arith;
    inside = omega arith;
    power = rw (add-one, pow-suc) (ap (λ (m : ℕ). m * 0x80) inv.power);
    below = omega (arith, mul-le-mul_right {m = b % 0x80} {n = 0x7f} weight (omega arith), inv.below);
    same =
        let f : 10 - i ≡ suc (9 - i) = omega arith in
        let g : 10 - (i + 1) ≡ 9 - i = omega arith in
        let r : added (suc (9 - i)) sum weight s (at + i) ≡ added (9 - i) (sum + (get_or s (at + i) 0 % 0x80) * weight) (weight * 0x80) s (at + i + 1)
        = added_more (9 - i) sum weight s (at + i) h (omega arith) in
        let n : at + (i + 1) ≡ at + i + 1 = omega arith in
        cc inv.same;
  }

  pub vlq_tenth : (b : ℕ) → b ≡ get_or s (at + i) 0 → at + i < length s → b < 0x80 → 9 ≤ i → got (sum + (b % 2) * weight) (at + i + 1) ≡ vlq s at
  vlq_tenth b e h hb hi =
      let w : weight ≡ 2 ^ 63 = vlq_tenth_weight hi in
      let r : added (10 - i) sum weight s (at + i) ≡ got ((sum + get_or s (at + i) 0 * weight) % 2 ^ 64) (at + i + 1)
      = added-last (10 - i) sum weight s (at + i) (omega (arith, inv.few)) h (omega arith) in
      cc (inv.same, tenth sum b (vlq_tenth_below hi))

  pub vlq_long : (b : ℕ) → b ≡ get_or s (at + i) 0 → at + i < length s → 0x80 ≤ b → 9 ≤ i → refused 2 ≡ vlq s at
  vlq_long b e h hb hi =
      let f : 10 - i ≡ suc 0 = omega (arith, inv.few) in
      sym (inv.same ∙ rw f (added_more 0 sum weight s (at + i) h (omega arith) ∙ added_long _ _ s (at + i + 1)))
