-- A chain of tests joined by `|` says whether some row contains the address. Each test is computed from its row: of an IPv4 address on its
-- number, of an IPv6 address on its two halves. So a function's whole chain is its list of rows, by computation; of `is_always_bogus_v6` once
-- its first two tests are written apart.
use Prim.Native.Nat.{ℕ, zero, suc, ◌+◌, ◌*◌, ◌-◌, ◌/◌, ◌%◌, ◌^◌, ◌≤◌, ◌<◌}
use native.Mathlib.Nat.{div-one, div-add-mod'}
use native.Mathlib.Omega.{arith}
use mathlib.Core.Path.{◌≡◌, refl, ap, sym, ◌∙◌}
use mathlib.Core.List.{List, [], ◌∷◌, ◌++◌, foldl}
use mathlib.Core.Bool.{Bool, true, false, cond, ◌||◌, ◌&&◌, or_assoc, or-false}
use lib.Dec.{eqb, leb}
use lib.Pow.{high, low, shr-shr, field}
use borrow.Author.Tests.{eq-eqb, ne_eqb, eqb-true, eqb-false, leb-true, leb-false}
use Rattle.types.specs.declared.Network.{Network}
use Rattle.types.specs.declared.Network.TheVariants.{Mainnet, Testnet}
use Rattle.address_sanity.specs.Ranges.{Range}
use Rattle.address_sanity.specs.Bogus.{contains, some_contains, is_mainnet, rows_on}

-- the rows' tests, joined from the left
abbrev pub joined : (Range → Bool) → List Range → Bool
joined test rows = foldl (λ t row. t || test row) false rows

-- two numbers agree but for their k lowest bits
abbrev pub agree : ℕ → ℕ → ℕ → Bool
agree zero a b = eqb a b
agree (suc k) a b = eqb (a / 2 ^ suc k) (b / 2 ^ suc k)

abbrev pub test_v4 : ℕ → Range → Bool
test_v4 ip (first, len) = agree (32 - len) ip first

-- a prefix of up to 64 bits is of the high half; a longer one is the high half and a prefix of the low half
abbrev pub test_v6 : ℕ → ℕ → Range → Bool
test_v6 hi lo (first, len) =
    cond (leb len 64)
    (agree (64 - len) hi (first / 2 ^ 64))
    (eqb hi (first / 2 ^ 64) && agree (128 - len) lo (first % 2 ^ 64))

agree-eq : (k a b : ℕ) → agree k a b ≡ eqb (a / 2 ^ k) (b / 2 ^ k)
agree-eq zero a b = simp div-one
agree-eq (suc k) a b = refl

joined-some : (width a : ℕ) (test : Range → Bool) → ((row : Range) → test row ≡ contains width row a)
    → (rows : List Range) → joined test rows ≡ some_contains width rows a
unfolding some_contains
joined-some width a test same = go false
  where
    go : (t : Bool) (rows : List Range) → foldl (λ t row. t || test row) t rows ≡ (t || some_contains width rows a)
    go t [] = sym (or-false t)
    go t (row ∷ rows) =
        rw (← same row) (go (t || test row) rows ∙ or_assoc t (test row) (some_contains width rows a))

pub some_v4 : (ip : ℕ) (rows : List Range) → joined (test_v4 ip) rows ≡ some_contains 32 rows ip
unfolding contains
some_v4 ip = joined-some 32 ip (test_v4 ip) (λ row. agree-eq (32 - row.1) ip row.0)

-- numbers are equal where their quotients and remainders are
eqb_split : (x y m : ℕ) → (eqb (x / m) (y / m) && eqb (x % m) (y % m)) ≡ eqb x y
eqb_split x y m = go (eqb (x / m) (y / m)) (eqb (x % m) (y % m)) refl refl
  where
    go : (q r : Bool) → eqb (x / m) (y / m) ≡ q → eqb (x % m) (y % m) ≡ r → (q && r) ≡ eqb x y
    go true true p s =
        let e = eqb-true (x / m) (y / m) p in
        let f = eqb-true (x % m) (y % m) s in
        sym (eq-eqb x y (cc (div-add-mod' x m, div-add-mod' y m)))
    go true false p s = sym (ne_eqb x y (λ e. eqb-false (x % m) (y % m) s (ap (λ (n : ℕ). n % m) e)))
    go false r p s = sym (ne_eqb x y (λ e. eqb-false (x / m) (y / m) p (ap (λ (n : ℕ). n / m) e)))

-- a prefix that ends above the w low bits, and one that ends among them
prefix_high : (w k x y : ℕ) → eqb (x / 2 ^ w / 2 ^ k) (y / 2 ^ w / 2 ^ k) ≡ eqb (x / 2 ^ (w + k)) (y / 2 ^ (w + k))
prefix_high w k x y = rw (shr-shr x w k, shr-shr y w k)

prefix_low : (w k x y : ℕ) → k ≤ w
    → (eqb (x / 2 ^ w) (y / 2 ^ w) && eqb (x % 2 ^ w / 2 ^ k) (y % 2 ^ w / 2 ^ k)) ≡ eqb (x / 2 ^ k) (y / 2 ^ k)
prefix_low w k x y h =
    let j : ℕ = w - k in
    let up : k + j ≡ w = omega arith in
    let down : j + k ≡ w = omega arith in
    rw (← eqb_split (x / 2 ^ k) (y / 2 ^ k) (2 ^ j), shr-shr x k j, shr-shr y k j, ← field x j k, ← field y j k, up, down)

test_v6-contains : (hi lo : ℕ) → lo < 2 ^ 64 → (row : Range) → test_v6 hi lo row ≡ contains 128 row (hi * 2 ^ 64 + lo)
unfolding contains
test_v6-contains hi lo h (first, len) = go (leb len 64) refl
  where
    go : (t : Bool) → leb len 64 ≡ t → test_v6 hi lo (first, len) ≡ contains 128 (first, len) (hi * 2 ^ 64 + lo)
    go true p =
        let e : 64 + (64 - len) ≡ 128 - len = omega (arith, leb-true len 64 p) in
        rw (p, agree-eq) (rw (high hi 64 h, e) at (prefix_high 64 (64 - len) (hi * 2 ^ 64 + lo) first))
    go false p =
        rw (p, agree-eq) (rw (high hi 64 h, low hi 64 h) at (prefix_low 64 (128 - len) (hi * 2 ^ 64 + lo) first (omega (arith, leb-false len 64 p))))

pub some_v6 : (hi lo : ℕ) → lo < 2 ^ 64 → (rows : List Range) → joined (test_v6 hi lo) rows ≡ some_contains 128 rows (hi * 2 ^ 64 + lo)
some_v6 hi lo h = joined-some 128 (hi * 2 ^ 64 + lo) (test_v6 hi lo) (test_v6-contains hi lo h)

some-append : (width a : ℕ) (xs ys : List Range)
    → some_contains width (xs ++ ys) a ≡ (some_contains width xs a || some_contains width ys a)
unfolding some_contains
some-append width a [] ys = refl
some-append width a (row ∷ xs) ys = rw (some-append width a xs ys) (sym (or_assoc (contains width row a) (some_contains width xs a) (some_contains width ys a)))

-- the rows of a network: those for every network, and on mainnet the others
pub either : (network : Network) (width a : ℕ) (always mainnet : List Range) (m p q : Bool)
    → m ≡ is_mainnet network → p ≡ some_contains width always a → q ≡ some_contains width mainnet a
    → (p || (m && q)) ≡ some_contains width (rows_on network always mainnet) a
either Mainnet width a always mainnet m p q em ep eq = rw (em, ep, eq) (sym (some-append width a always mainnet))
either Testnet width a always mainnet m p q em ep eq = rw (em, ep) (or-false (some_contains width always a))
