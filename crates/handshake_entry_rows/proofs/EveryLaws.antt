-- A test of every row of a range, as `all` over the range's numbers answers it.
use Rattle.std.specs.Prelude.{ℕ, zero, suc, ◌+◌, ◌-◌, ◌≤◌, ◌<◌, Bool, true, false, ◌≡◌, refl, length}
use Rattle.std.specs.Bool.{MatchBool}
use Rattle.std.specs.List.{AllWithin, HoldsAt, range_with_len}
use Rattle.std.proofs.Common.{arith, sym, ap, ◌∙◌}
use Rattle.std.proofs.lemmas.List.FromFn.{length-range_with_len, get_or-range_with_len}
use Rattle.std.proofs.Math.ListN.{get_or}
use Rattle.wire.specs.Bytes.{every}
use Rattle.handshake.specs.Tables.{rows}
use Rattle.handshake.proofs.TablesLaws.{every_row_lem}

every-all : {A : Type 0} (test : A → Bool) (f : ℕ → A) (a n : ℕ) → ((k : ℕ) → a ≤ k → k < a + n → test (f k) ≡ true)
    → every test (rows f a n) ≡ true
unfolding every rows
every-all test f a zero h = refl
every-all test f a (suc n) h = rw (h a (omega arith) (omega arith)) (every-all test f (a + 1) n (λ k l g. h k (omega arith) (omega arith)))

every-not : {A : Type 0} (test : A → Bool) (f : ℕ → A) (a n k : ℕ) → a ≤ k → k < a + n → test (f k) ≡ false
    → every test (rows f a n) ≡ false
every-not test f a n k l g never = go (every test (rows f a n)) refl
  where
    go : (b : Bool) → every test (rows f a n) ≡ b → b ≡ false
    go false e = refl
    go true e = sym (every_row_lem test f n a k e l g) ∙ never

-- `t` is what the code asks of the numbers of the range
module _ {A : Type 0} (test : A → Bool) (f : ℕ → A) (t : ℕ → Bool) (a n : ℕ) (same : (k : ℕ) → a ≤ k → k < a + n → t k ≡ test (f k)) where
  pub every-range : (b : Bool)
      → MatchBool b (AllWithin (λ k. t k ≡ true) (range_with_len a n) 0 (length (range_with_len a n)))
      ((k : ℕ) × (k < length (range_with_len a n)) × HoldsAt (λ k. t k ≡ false) (range_with_len a n) k)
      → b ≡ every test (rows f a n)
  every-range true h =
      sym (every-all test f a n (λ k l g.
      let i : k - a < n = omega arith in
      let e : get_or (range_with_len a n) (k - a) 0 ≡ k = get_or-range_with_len a n (k - a) 0 i ∙ omega arith in
      sym (same k l g) ∙ ap t (sym e) ∙ h (k - a) 0 (omega arith) (omega (arith, length-range_with_len a n))))
  every-range false (i, lt, never) =
      let j : i < n = omega (arith, length-range_with_len a n) in
      let e = get_or-range_with_len a n i 0 j in
      sym (every-not test f a n (a + i) (omega arith) (omega arith) (sym (same (a + i) (omega arith) (omega arith)) ∙ ap t (sym e) ∙ never 0))
