-- The running hash is BLAKE2b: started, stepped over whole blocks and finished with the rest, it gives the RFC's digest.
-- The idea: absorbed blocks are those of the RFC's loop, and a block is the same whether it is counted from the start of
-- the input or from where the rest begins. Assumes nothing.
use Rattle.std.specs.Prelude.{◌≡◌, ℕ, zero, suc, ◌+◌, ◌-◌, ◌*◌, ◌/◌, ◌%◌, ◌^◌, ◌<◌, ◌≤◌, true, false, ◌⊎◌, List, [], ◌++◌, length, take, drop, replicate, refl}
use Rattle.std.proofs.Math.Path.{ap}
use Rattle.std.proofs.Common.{ap₂, sym, ◌∙◌, ⊎_elim, add-zero, add-suc, mod-eq_of_lt, arith, length-drop, drop-drop}
use Rattle.blake2b_hash.specs.declared.Hash.{Hash}
use Rattle.blake2b.specs.Blake2b.{w, bb, ll_bound, for, words, unwords, F, dd, d, h0, blake2b}
use Rattle.blake2b.proofs.Blake2bLaws.{words_take, d-whole, dd-before}
use Rattle.blake2b_hash.specs.Running.{hash, counted, started, advanced, stepped, absorbed, ended, finished, run}

-- ---- from the start of the input

-- a counter that stays below the limit
counted-hash : (h : List ℕ) (t n : ℕ) → t + n < ll_bound → counted (hash h t) n ≡ t + n
unfolding counted
counted-hash h t n l =
    let e : t % 2 ^ w + t / 2 ^ w * 2 ^ w ≡ t = omega arith in
    ap (λ (k : ℕ). (k + n) % ll_bound) e ∙ mod-eq_of_lt l

-- the RFC's loop over the first i blocks
abbrev loop : ℕ → List ℕ → ℕ → List ℕ
loop nn s i = for i (λ i h. F h (d s i) ((i + 1) * bb) false) (h0 nn)

next : (h m : List ℕ) (i : ℕ) → i * bb + bb < ll_bound → advanced (hash h (i * bb)) m ≡ hash (F h m ((i + 1) * bb) false) (suc i * bb)
unfolding advanced
next h m i l =
    let e : i * bb + bb ≡ (i + 1) * bb = omega arith in
    let g : (i + 1) * bb ≡ suc i * bb = omega arith in
    ap (λ (t : ℕ). hash (F h m t false) t) (counted-hash h (i * bb) bb l ∙ e) ∙ ap (hash (F h m ((i + 1) * bb) false)) g

absorbed-loop : (nn : ℕ) (s : List ℕ) (i : ℕ) → i * bb < ll_bound → absorbed (started nn) s i ≡ hash (loop nn s i) (i * bb)
unfolding absorbed started for
absorbed-loop nn s zero l = refl
absorbed-loop nn s (suc i) l =
    let e : i * bb + bb ≡ suc i * bb = omega arith in
    let m : i * bb + bb < ll_bound = omega arith in
    ap (λ (x : Hash). advanced x (d s i)) (absorbed-loop nn s i (omega arith)) ∙ next (loop nn s i) (d s i) i m

-- finished with the whole input right after the start
pub finished_started : (nn : ℕ) (s : List ℕ) → length s < ll_bound → finished nn (started nn) s ≡ blake2b nn s
unfolding finished ended blake2b
finished_started nn s l =
    let i : ℕ = dd (length s) - 1 in
    let e : i * bb + (length s - i * bb) ≡ length s = omega (arith, dd-before (length s)) in
    let m : i * bb < ll_bound = omega (arith, dd-before (length s)) in
    let c : counted (hash (loop nn s i) (i * bb)) (length s - i * bb) ≡ length s =
    counted-hash (loop nn s i) (i * bb) (length s - i * bb) (rw e l) ∙ e in
    ap (λ (x : Hash). take nn (unwords (ended x s i))) (absorbed-loop nn s i m)
    ∙ ap (λ (t : ℕ). take nn (unwords (F (loop nn s i) (d s i) t true))) c

-- ---- from a place between two blocks

d-from : (s : List ℕ) (k i : ℕ) → d (drop (k * bb) s) i ≡ d s (k + i)
unfolding d
d-from s k i =
    let e : k * bb + i * bb ≡ (k + i) * bb = omega arith in
    ap (λ (u : List ℕ). words 16 (u ++ replicate bb 0)) (drop-drop (i * bb) (k * bb) s ∙ ap (λ (j : ℕ). drop j s) e)

absorbed-from : (x : Hash) (s : List ℕ) (k n : ℕ) → absorbed (absorbed x s k) (drop (k * bb) s) n ≡ absorbed x s (k + n)
unfolding absorbed for
absorbed-from x s k zero = rw add-zero
absorbed-from x s k (suc n) = rw add-suc (ap₂ advanced (absorbed-from x s k n) (d-from s k n))

ended-from : (x : Hash) (s : List ℕ) (k i : ℕ) → ended x (drop (k * bb) s) i ≡ ended x s (k + i)
unfolding ended
ended-from x s k i =
    let e : length s - k * bb - i * bb ≡ length s - (k + i) * bb = omega arith in
    ap₂ (λ (m : List ℕ) (n : ℕ). F x.h m (counted x n) true) (d-from s k i) (ap (λ (j : ℕ). j - i * bb) (length-drop (k * bb) s) ∙ e)

-- a hash that absorbed the first k blocks and is finished with the rest, which is not empty
pub finished_from : (nn : ℕ) (x : Hash) (s : List ℕ) (k : ℕ) → k * bb < length s
    → finished nn (absorbed x s k) (drop (k * bb) s) ≡ finished nn x s
unfolding finished
finished_from nn x s k l =
    let i : ℕ = dd (length (drop (k * bb) s)) - 1 in
    let e : k + i ≡ dd (length s) - 1 =
    omega (arith, dd-before (length s), dd-before (length (drop (k * bb) s)), length-drop (k * bb) s) in
    ap (λ (u : List ℕ). take nn (unwords u)) (ap (λ (y : Hash). ended y (drop (k * bb) s) i) (absorbed-from x s k i)
    ∙ ended-from (absorbed x s (k + i)) s k i ∙ ap (λ (j : ℕ). ended (absorbed x s j) s j) e)

-- ---- the run

stepped-whole : (x : Hash) (s : List ℕ) (i : ℕ) → i * bb + bb ≤ length s → stepped x (take bb (drop (i * bb) s)) ≡ advanced x (d s i)
unfolding stepped
stepped-whole x s i l = ap (advanced x) (words_take (drop (i * bb) s) (simp length-drop (omega arith)) ∙ sym (d-whole s i l))

steps : (x : Hash) (s : List ℕ) (k : ℕ) → k * bb ≤ length s → for k (λ i x. stepped x (take bb (drop (i * bb) s))) x ≡ absorbed x s k
unfolding absorbed for
steps x s zero l = refl
steps x s (suc k) l =
    ap (λ (y : Hash). stepped y (take bb (drop (k * bb) s))) (steps x s k (omega arith))
    ∙ stepped-whole (absorbed x s k) s k (omega arith)

-- The theorem: a run that is split after any number of whole blocks, with some of the input left or nothing absorbed before,
-- gives the RFC's digest of the whole input.
pub run-digest : (nn : ℕ) (s : List ℕ) (k : ℕ) → length s < ll_bound → (k ≡ 0) ⊎ (k * bb < length s) → run nn s k ≡ blake2b nn s
unfolding run
run-digest nn s k l split =
    ⊎_elim (λ z. rw z (unfold for in (finished_started nn s l)))
    (λ m. ap (λ (x : Hash). finished nn x (drop (k * bb) s)) (steps (started nn) s k (omega arith)) ∙ finished_from nn (started nn) s k m
    ∙ finished_started nn s l) split

-- An empty rest is one more block, of zero bytes, which counts nothing. The RFC has such a block only where the whole input
-- is empty; after k > 0 blocks it flags the last of those instead, so the rest must hold that one.
pub finished-empty : (nn : ℕ) (x : Hash) → finished nn x [] ≡ take nn (unwords (F x.h (words 16 (replicate bb 0)) (counted x 0) true))
unfolding finished absorbed ended for d dd
finished-empty nn x = refl
