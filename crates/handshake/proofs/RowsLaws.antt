-- Rows of a table, one after the other from i on: what a loop over n rows has still to do.
use Prim.Native.Nat.{ℕ, zero, suc, ◌+◌, ◌-◌, ◌≤◌, ◌<◌}
use Rattle.std.proofs.Math.Nat.{add-zero, sub-zero}
use Rattle.std.proofs.Common.{zero-add, add-one, ◌∙◌}
use native.Mathlib.Omega.{arith}
use Rattle.std.specs.Prelude.{Bool, true, false, ◌&&◌, ◌≡◌, length}
use mathlib.Core.List.{List, [], ◌∷◌, ◌++◌, map, flat_map}
use Rattle.std.proofs.Math.Path.{refl, sym, ap}
use Rattle.wire.specs.Bytes.{every}
use Rattle.wire.proofs.BytesLaws.{and-true}
use Rattle.handshake.specs.Tables.{rows}
use Rattle.handshake.proofs.TablesLaws.{every_row_lem}

module _ {A : Type 0} (f : ℕ → A) where
  pub length-rows : (i n : ℕ) → length (rows f i n) ≡ n
  unfolding rows
  length-rows i zero = refl
  length-rows i (suc n) = ap suc (length-rows (i + 1) n)

  pub rows_next : (i n : ℕ) → i < n → rows f i (n - i) ≡ f i ∷ rows f (i + 1) (n - (i + 1))
  unfolding rows
  rows_next i n h = let e : n - i ≡ suc (n - (i + 1)) = omega arith in rw e

  pub rows_none : (i n : ℕ) → n ≤ i → rows f i (n - i) ≡ []
  unfolding rows
  rows_none i n h = let e : n - i ≡ 0 = omega arith in rw e

  rows_past : (b i n : ℕ) → rows (λ k. f (b + k)) i n ≡ rows f (b + i) n
  unfolding rows
  rows_past b i zero = refl
  rows_past b i (suc n) =
      let e : b + (i + 1) ≡ b + i + 1 = omega arith in
      ap (λ (l : List A). f (b + i) ∷ l) (rows_past b (i + 1) n ∙ ap (λ (k : ℕ). rows f k n) e)

  -- one row more
  rows_snoc : (n i : ℕ) → rows f i (suc n) ≡ rows f i n ++ (f (i + n) ∷ [])
  unfolding rows
  rows_snoc zero i = rw add-zero
  rows_snoc (suc n) i =
      let e : i + 1 + n ≡ i + suc n = omega arith in
      ap (λ (l : List A). f i ∷ l) (rows_snoc n (i + 1) ∙ ap (λ (k : ℕ). rows f (i + 1) n ++ (f k ∷ [])) e)

  pub rows_last : (n : ℕ) → rows f 0 (n + 1) ≡ rows f 0 n ++ (f n ∷ [])
  rows_last n =
      ap (rows f 0) (add-one n) ∙ rows_snoc n 0 ∙ ap (λ (k : ℕ). rows f 0 n ++ (f k ∷ [])) (zero-add n)

  -- the n rows from b on, counted from 0
  pub rows-from : (b n : ℕ) → rows (λ k. f (b + k)) 0 n ≡ rows f b n
  rows-from b n = rows_past b 0 n ∙ ap (λ (k : ℕ). rows f k n) (add-zero b)

-- what holds of every row holds of each of some of them
pub every-rows : {A : Type 0} (test : A → Bool) (f : ℕ → A) (n i m : ℕ) → every test (rows f 0 n) ≡ true → i + m ≤ n → every test (rows f i m) ≡ true
unfolding every rows
every-rows test f n i zero h g = refl
every-rows test f n i (suc m) h g = rw (every_row_lem test f n 0 i h (omega arith) (omega arith)) (every-rows test f n (i + 1) m h (omega arith))

-- ---- a test of every row: those before i passed it

pub record Passed {A : Type 0} (test : A → Bool) (f : ℕ → A) (n i : ℕ) : Type 0 where
  pub few : i ≤ n
  pub same : every test (rows f i (n - i)) ≡ every test (rows f 0 n)

pub passed_start : {A : Type 0} (test : A → Bool) (f : ℕ → A) (n : ℕ) → Passed test f n 0
passed_start test f n = record { few = omega arith; same = rw sub-zero }

module _ {A : Type 0} {test : A → Bool} {f : ℕ → A} {n i : ℕ} (inv : Passed test f n i) where
  here : i < n → every test (rows f 0 n) ≡ test (f i) && every test (rows f (i + 1) (n - (i + 1)))
  unfolding every
  here h = sym inv.same ∙ ap (every test) (rows_next f i n h)

  pub passed-next : i < n → test (f i) ≡ true → Passed test f n (i + 1)
  passed-next h p = record { few = omega arith; same = sym (here h ∙ rw p) }

  pub passed-not : i < n → test (f i) ≡ false → false ≡ every test (rows f 0 n)
  passed-not h p = sym (here h ∙ rw p)

  pub passed-end : n ≤ i → true ≡ every test (rows f 0 n)
  unfolding every
  passed-end h = sym (ap (every test) (rows_none f i n h)) ∙ inv.same

-- every row passed, and so do those from i on
pub every_here : {A : Type 0} (test : A → Bool) (f : ℕ → A) (i n : ℕ) → i < n → every test (rows f i (n - i)) ≡ true → test (f i) ≡ true
unfolding every
every_here test f i n h p = (and-true (test (f i)) _ (sym (ap (every test) (rows_next f i n h)) ∙ p)).0

pub every_rest : {A : Type 0} (test : A → Bool) (f : ℕ → A) (i n : ℕ) → i < n → every test (rows f i (n - i)) ≡ true
    → every test (rows f (i + 1) (n - (i + 1))) ≡ true
unfolding every
every_rest test f i n h p = (and-true (test (f i)) _ (sym (ap (every test) (rows_next f i n h)) ∙ p)).1

-- ---- the bytes of the rows

module _ {A B : Type 0} (bytes : B → List ℕ) (value : A → B) (f : ℕ → A) where
  pub bytes_next : (i n : ℕ) → i < n
      → flat_map bytes (map value (rows f i (n - i))) ≡ bytes (value (f i)) ++ flat_map bytes (map value (rows f (i + 1) (n - (i + 1))))
  unfolding flat_map
  bytes_next i n h = ap (λ l. flat_map bytes (map value l)) (rows_next f i n h)

  pub bytes-none : (i n : ℕ) → n ≤ i → flat_map bytes (map value (rows f i (n - i))) ≡ []
  unfolding flat_map
  bytes-none i n h = ap (λ l. flat_map bytes (map value l)) (rows_none f i n h)
