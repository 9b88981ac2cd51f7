-- Laws of the rows: a row contains the addresses from its first to its last and no others, so that its edges are in, and their outer
-- neighbours are left to the other rows. Proved once, for any well_formed_lem row; that the table's rows are well formed is computed.
use Rattle.std.specs.Prelude.{ℕ, zero, ◌+◌, ◌*◌, ◌-◌, ◌/◌, ◌%◌, ◌^◌, ◌≤◌, ◌<◌, ◌≡◌, refl, Bool, true, false, ◌||◌, ◌&&◌, eqb, leb, ltb}
use Rattle.std.proofs.Common.{div-add-mod', div-lt_iff_lt-mul, le-div_iff_mul-le, arith, ap, ◌∙◌, ⊎_elim, pow_pos, eq-eqb, ne_eqb, le-leb, eqb-true, ltb-true, leb-true, leb-false}
use Rattle.std.proofs.Math.Nat.{div-eq_of_lt-le}
use mathlib.Core.List.Memᴰ
use mathlib.Core.List.{List, [], ◌∷◌, ◌++◌, Memᴰ}
use Rattle.std.proofs.Math.Bool.{and-eq-true_iff}
use Rattle.std.proofs.lemmas.Bool.{lt-leb}
use Rattle.types.specs.declared.Network.{Network}
use Rattle.types.specs.declared.Address.TheVariants.{V4, V6}
use Rattle.address_sanity.specs.Ranges.{Range, always_v4, always_v6, mainnet_v4, mainnet_v6}
use Rattle.address_sanity.specs.Bogus.{contains, some_contains, bogus}

-- a row's last address
unfoldable pub last : ℕ → Range → ℕ
last width (first, len) = first + (2 ^ (width - len) - 1)

-- no bit of the first address lies below the prefix, and the last is an address of width bits
unfoldable pub well_formed : ℕ → Range → Bool
well_formed width (first, len) = eqb (first % 2 ^ (width - len)) 0 && ltb (last width (first, len)) (2 ^ width)

-- the numbers whose quotient by m is that of its multiple f
between : (m f a : ℕ) → zero < m → f % m ≡ 0 → eqb (a / m) (f / m) ≡ (leb f a && leb a (f + (m - 1)))
between m f a pos e = go (leb f a) (leb a (f + (m - 1))) refl refl
  where
    whole : f / m * m ≡ f
    whole = omega (arith, div-add-mod' f m)

    go : (s t : Bool) → leb f a ≡ s → leb a (f + (m - 1)) ≡ t → eqb (a / m) (f / m) ≡ (s && t)
    go true true p q =
        eq-eqb (a / m) (f / m)
        (div-eq_of_lt-le m (omega (arith, whole, leb-true f a p)) (omega (arith, whole, leb-true a (f + (m - 1)) q)))
    go true false p q =
        let h : (f / m + 1) * m ≤ a = omega (arith, whole, leb-false a (f + (m - 1)) q) in
        ne_eqb (a / m) (f / m) (λ g. absurd (omega (arith, (le-div_iff_mul-le pos).1 h)))
    go false t p q =
        let h : a < f / m * m = omega (arith, whole, leb-false f a p) in
        ne_eqb (a / m) (f / m) (λ g. absurd (omega (arith, (div-lt_iff_lt-mul pos).1 h)))

well_formed_lem : (width : ℕ) (row : Range) → well_formed width row ≡ true
    → (row.0 % 2 ^ (width - row.1) ≡ 0) × (last width row < 2 ^ width)
unfolding well_formed
well_formed_lem width (first, len) h =
    let parts = (and-eq-true_iff (eqb (first % 2 ^ (width - len)) 0) (ltb (last width (first, len)) (2 ^ width))).0 h in
    (eqb-true _ _ parts.0, ltb-true _ _ parts.1)

-- a row contains the addresses from its first to its last
pub contains_between : (width : ℕ) (row : Range) → well_formed width row ≡ true
    → (a : ℕ) → contains width row a ≡ (leb row.0 a && leb a (last width row))
unfolding contains last
contains_between width (first, len) h a =
    between (2 ^ (width - len)) first a (pow_pos (width - len)) (well_formed_lem width (first, len) h).0

pub record Edges (width : ℕ) (row : Range) : Type 0 where
  pub first_in_lem : contains width row row.0 ≡ true
  pub last_in : contains width row (last width row) ≡ true
  pub before-out : 0 < row.0 → contains width row (row.0 - 1) ≡ false
  pub after-out : contains width row (last width row + 1) ≡ false
  pub last-address : last width row < 2 ^ width

first-last : (width : ℕ) (row : Range) → row.0 ≤ last width row
unfolding last
first-last width row = omega arith

edges : (width : ℕ) (row : Range) → well_formed width row ≡ true → Edges width row
edges width row h =
    let f : ℕ = row.0 in
    let l : ℕ = last width row in
    let up : f ≤ l = first-last width row in
    let judged = contains_between width row h in
    record {
      first_in_lem = judged f ∙ simp (le-leb f f (omega arith), le-leb f l up);
      last_in = judged l ∙ simp (le-leb f l up, le-leb l l (omega arith));
      before-out = λ pos. judged (f - 1) ∙ simp (lt-leb f (f - 1) (omega arith));
      after-out = judged (l + 1) ∙ simp (le-leb f (l + 1) (omega arith), lt-leb (l + 1) l (omega arith));
      last-address = (well_formed_lem width row h).1;
    }

unfoldable pub every_row : (Range → Bool) → List Range → Bool
every_row test [] = true
every_row test (row ∷ rows) = test row && every_row test rows

every_row_lem : (test : Range → Bool) (rows : List Range) → every_row test rows ≡ true → (row : Range) → Memᴰ row rows → test row ≡ true
unfolding every_row
every_row_lem test [] h row m = absurd (Memᴰ.not-nil m)
every_row_lem test (r ∷ rows) h row m =
    let parts = (and-eq-true_iff (test r) (every_row test rows)).0 h in
    ⊎_elim (λ e. ap test e ∙ parts.0) (λ n. every_row_lem test rows parts.1 row n) (Memᴰ.cases_cons m)

-- the edges of each row of the table
pub edges_v4 : (row : Range) → Memᴰ row (always_v4 ++ mainnet_v4) → Edges 32 row
unfolding every_row well_formed last always_v4 mainnet_v4
edges_v4 row m = edges 32 row (every_row_lem (well_formed 32) (always_v4 ++ mainnet_v4) refl row m)

pub edges_v6 : (row : Range) → Memᴰ row (always_v6 ++ mainnet_v6) → Edges 128 row
unfolding every_row well_formed last always_v6 mainnet_v6
edges_v6 row m = edges 128 row (every_row_lem (well_formed 128) (always_v6 ++ mainnet_v6) refl row m)

-- an address that a row does not contain is judged by the other rows
pub others : (width a : ℕ) (before : List Range) (row : Range) (after : List Range) → contains width row a ≡ false
    → some_contains width (before ++ (row ∷ after)) a ≡ some_contains width (before ++ after) a
unfolding some_contains
others width a [] row after h = simp h
others width a (r ∷ before) row after h = ap (λ (t : Bool). contains width r a || t) (others width a before row after h)

-- the port plays no part
pub port-v4 : (ip p q : ℕ) (network : Network) → bogus (V4 ip p) network ≡ bogus (V4 ip q) network
unfolding bogus
port-v4 ip p q network = refl

pub port-v6 : (high low p q : ℕ) (network : Network) → bogus (V6 high low p) network ≡ bogus (V6 high low q) network
unfolding bogus
port-v6 high low p q network = refl
