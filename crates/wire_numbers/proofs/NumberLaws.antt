-- The loop over the bytes of a number keeps the number of all of them. Then the bytes of a number, the lowest first.
use Rattle.std.proofs.Common.{arith, ℕ, zero, suc, ◌+◌, ◌-◌, ◌*◌, ◌/◌, ◌%◌, ◌^◌, ◌≤◌, ◌<◌, List, [], ◌∷◌, ◌++◌, ◌≡◌, refl, sym, ap, append-nil, ◌∙◌, take, length, replicate, set}
use Rattle.std.proofs.Math.Nat.{div-div-eq-div-mul}
use native.Mathlib.Numerals.{add-one}
use native.Mathlib.Nat.{pow-succ', pow-le-pow_right}
use Rattle.wire.specs.Bytes.{big_endian_from, big_endian, big_endian_bytes}

no_more : (left : ℕ) (rest : List ℕ) → (0 < left → length rest ≡ 0) → take left rest ≡ []
no_more zero rest e = refl
no_more (suc left) [] e = refl
no_more (suc left) (b ∷ rest) e = let z = e (omega arith) in absurd (omega arith)

-- n is the number of the bytes before the next left ones of rest, where all of N are bs
pub record NumberSoFar (N : ℕ) (bs : List ℕ) (n left : ℕ) (rest : List ℕ) : Type 0 where
  pub few : left ≤ N
  pub short : N ≤ 8
  pub below : n < 256 ^ (N - left)
  pub same : big_endian_from n (take left rest) ≡ big_endian bs

pub number-start : (N : ℕ) (s : List ℕ) → N ≤ 8 → NumberSoFar N (take N s) 0 N s
unfolding big_endian
number-start N s h = let none : N - N ≡ 0 = omega arith in record { few = omega arith; short = h; below = rw none (omega arith); same = refl }

module _ {N : ℕ} {bs : List ℕ} {n left : ℕ} {rest : List ℕ} (inv : NumberSoFar N bs n left rest) where
  pub number-again : {left' : ℕ} {rest' : List ℕ} (b : ℕ) → b < 256 → rest ≡ b ∷ rest' → left' + 1 ≡ left
      → NumberSoFar N bs (n * 256 % 2 ^ 64 + b) left' rest'
  unfolding big_endian_from
  number-again {left' = left'} {rest' = rest'} b small e l =
      let more : 256 ^ (N - left) ≤ 256 ^ 7 = pow-le-pow_right {n = 256} (omega arith) {i = N - left} {j = 7} (omega (arith, inv.short, inv.few)) in
      let whole : n * 256 % 2 ^ 64 ≡ n * 256 = omega (arith, inv.below) in
      let up : N - left' ≡ suc (N - left) = omega (arith, inv.few) in
      record {
        few = omega (arith, inv.few);
        short = inv.short;
        below = rw (whole, up) (omega (arith, pow-succ' 256 (N - left), inv.below));
        same = rw whole (rw (e, sym l, add-one) at inv.same);
      }

  -- no byte is left
  pub number-end : (0 < left → length rest ≡ 0) → (n ≡ big_endian bs) × (n < 256 ^ N)
  unfolding big_endian_from
  number-end e =
      let b : 256 ^ (N - left) ≤ 256 ^ N = pow-le-pow_right {n = 256} (omega arith) {i = N - left} {j = N} (omega arith) in
      (rw (no_more left rest e) at inv.same, omega (arith, inv.below))

-- the same modulo 2^64, for any N
same-modulo : (x y : ℕ) (bs : List ℕ) → x % 2 ^ 64 ≡ y % 2 ^ 64 → big_endian_from x bs % 2 ^ 64 ≡ big_endian_from y bs % 2 ^ 64
unfolding big_endian_from
same-modulo x y [] h = h
same-modulo x y (b ∷ bs) h = same-modulo (x * 256 + b) (y * 256 + b) bs (omega arith)

pub record ModuloSoFar (bs : List ℕ) (n left : ℕ) (rest : List ℕ) : Type 0 where
  pub same : big_endian_from n (take left rest) % 2 ^ 64 ≡ big_endian bs % 2 ^ 64

pub modulo-start : (N : ℕ) (s : List ℕ) → ModuloSoFar (take N s) 0 N s
unfolding big_endian
modulo-start N s = record { same = refl }

module _ {bs : List ℕ} {n left : ℕ} {rest : List ℕ} (inv : ModuloSoFar bs n left rest) where
  pub modulo-again : {left' : ℕ} {rest' : List ℕ} (b : ℕ) → rest ≡ b ∷ rest' → left' + 1 ≡ left → ModuloSoFar bs (n * 256 % 2 ^ 64 + b) left' rest'
  unfolding big_endian_from
  modulo-again {left' = left'} {rest' = rest'} b e l =
      record { same = same-modulo (n * 256 % 2 ^ 64 + b) (n * 256 + b) (take left' rest') (omega arith) ∙ rw (e, sym l, add-one) at inv.same }

  pub modulo-end : n < 2 ^ 64 → (0 < left → length rest ≡ 0) → n ≡ big_endian bs % 2 ^ 64
  unfolding big_endian_from
  modulo-end small e = let r = rw (no_more left rest e) at inv.same in omega (arith, r, small)

-- the lowest k bytes of n stand last, zeros before them, and rest is what is left of n
pub record BytesSoFar (n left k rest : ℕ) (bs : List ℕ) : Type 0 where
  pub stand : bs ≡ replicate left 0 ++ big_endian_bytes k n
  pub over : rest ≡ n / 256 ^ k

pub bytes-start : (N n : ℕ) → BytesSoFar n N (N - N) n (replicate N 0)
unfolding big_endian_bytes
bytes-start N n = let none : N - N ≡ 0 = omega arith in rw none (record { stand = sym (append-nil (replicate N 0)); over = omega arith })

pub bytes-again : {n left k k' rest : ℕ} {bs : List ℕ} → BytesSoFar n left k rest bs → 0 < left → k' ≡ suc k
    → BytesSoFar n (left - 1) k' (rest / 256) (set bs (left - 1) (rest % 256))
unfolding big_endian_bytes
bytes-again {n = n} {left = zero} inv h up = absurd (omega arith)
bytes-again {n = n} {left = suc j} {k = k} inv h up =
    let one : suc j - 1 ≡ j = omega arith in
    let power : 256 ^ k * 256 ≡ 256 ^ suc k = omega (arith, pow-succ' 256 k) in
    rw (up, one)
    (record {
      stand = rw (inv.stand, inv.over) (seam j (n / 256 ^ k % 256) (big_endian_bytes k n));
      over = rw inv.over (div-div-eq-div-mul n (256 ^ k) 256 ∙ ap (λ x. n / x) power);
    })
  where
    seam : (j b : ℕ) (bs : List ℕ) → set (replicate (suc j) 0 ++ bs) j b ≡ replicate j 0 ++ b ∷ bs
    seam zero b bs = refl
    seam (suc j) b bs = ap (λ l. 0 ∷ l) (seam j b bs)

pub bytes-end : (N : ℕ) {n left rest : ℕ} {bs : List ℕ} → BytesSoFar n left (N - left) rest bs → left ≤ 0 → bs ≡ big_endian_bytes N n
bytes-end N {left = left} inv h =
    let none : left ≡ 0 = omega arith in
    let all : N - left ≡ N = omega arith in
    rw (all, none) at inv.stand
