-- An array that a loop fills from the front: the first i elements of a list, and then zeros. Assumes nothing.
use Rattle.std.specs.Prelude.{◌≡◌, List, [], ◌∷◌, ◌++◌, ℕ, suc, ◌+◌, ◌-◌, ◌<◌, ◌≤◌, length, set, take, replicate}
use Rattle.std.proofs.Common.{ap, sym, ◌∙◌, append-nil, add-one, suc-add, zero-add, arith, length-append, take-suc, take_at, length-take-le}
use Rattle.std.proofs.lemmas.List.{length-replicate, replicate-append-replicate, set_at, set-append_left}
use Rattle.std.proofs.Math.Seq.{take-append-add, take-length, append_snoc}
use Rattle.blake2b.specs.Blake2b.{◌!◌}

-- n elements, the first i of them from u
abbrev pub filled : ℕ → List ℕ → ℕ → List ℕ
filled n u i = take i u ++ replicate (n - i) 0

pub filled_more : (n : ℕ) (u : List ℕ) (i x : ℕ) → i < length u → i < n → x ≡ u ! i → set (filled n u i) i x ≡ filled n u (i + 1)
filled_more n u i x h l e =
    let k : n - i ≡ suc (n - (i + 1)) = omega arith in
    rw (k, e, set_at (take i u) 0 (replicate (n - (i + 1)) 0) (u ! i) i (length-take-le i u (omega arith)), add-one, take-suc u i 0 h, append_snoc)

-- all of u, and zeros up to n
pub filled-padded : (n : ℕ) (u : List ℕ) (i : ℕ) → i ≡ length u → i ≤ n → filled n u i ≡ take n (u ++ replicate n 0)
filled-padded n u i e h =
    let k : n ≡ length u + (n - i) = omega arith in
    let m : n ≡ n - i + i = omega arith in
    let z : replicate {A = ℕ} n 0 ≡ replicate (n - i) 0 ++ replicate i 0 =
    ap (λ (j : ℕ). replicate {A = ℕ} j 0) m ∙ sym (replicate-append-replicate (n - i) i 0) in
    ap (λ (j : ℕ). take j u ++ replicate (n - i) 0) e ∙ ap (◌++ replicate (n - i) 0) (take-length u)
    ∙ ap (u ++◌) (sym (take_at (replicate (n - i) 0) (replicate i 0) (n - i) (length-replicate (n - i) 0)) ∙ ap (take (n - i)) (sym z))
    ∙ sym (take-append-add u (replicate n 0) (n - i)) ∙ ap (λ (j : ℕ). take j (u ++ replicate n 0)) (sym k)

-- the first n elements of u, when all are there
pub filled-all : (n : ℕ) (u : List ℕ) (i : ℕ) → i ≡ n → filled n u i ≡ take n u
filled-all n u i e =
    let z : n - n ≡ 0 = omega arith in
    rw (e, z) (append-nil (take n u))

set_right : (a b : List ℕ) (i x : ℕ) → set (a ++ b) (length a + i) x ≡ a ++ set b i x
set_right [] b i x = rw zero-add
set_right (y ∷ a) b i x = rw suc-add (ap (λ (r : List ℕ). y ∷ r) (set_right a b i x))

filled-length : (n : ℕ) (u : List ℕ) (i : ℕ) → i ≤ length u → i ≤ n → length (filled n u i) ≡ n
filled-length n u i h l = simp (length-append, length-replicate) (rw (length-take-le i u h) (omega arith))

-- two arrays side by side, each filled by one store
pub filled-both : (n : ℕ) (v a b : List ℕ) (i j x y : ℕ) → i < length a → i < length b → i < n → j ≡ n + i → x ≡ a ! i → y ≡ b ! i
    → v ≡ filled n a i ++ filled n b i → set (set v i x) j y ≡ filled n a (i + 1) ++ filled n b (i + 1)
filled-both n v a b i j x y la lb ln ej ex ey ev =
    let la' : i ≤ length a = omega arith in
    let k : length (filled n a i) ≡ n = filled-length n a i la' (omega arith) in
    let k' : length (filled n a (i + 1)) ≡ n = filled-length n a (i + 1) (omega arith) (omega arith) in
    let l : i < length (filled n a i) = omega arith in
    ap (λ (u : List ℕ). set (set u i x) j y) ev
    ∙ ap (λ (u : List ℕ). set u j y) (set-append_left (filled n a i) (filled n b i) i x l ∙ ap (◌++ filled n b i) (filled_more n a i x la ln ex))
    ∙ ap (λ (e : ℕ). set (filled n a (i + 1) ++ filled n b i) e y) (ej ∙ ap (◌+ i) (sym k'))
    ∙ set_right (filled n a (i + 1)) (filled n b i) i y ∙ ap (filled n a (i + 1) ++◌) (filled_more n b i y lb ln ey)
