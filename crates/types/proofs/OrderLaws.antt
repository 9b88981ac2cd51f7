-- The order of versions is a strict total order, and for bytes it is the order of the number major * 65536 + minor * 256 + patch.
-- Each is one law of `then_by`, used at each of the three fields.
use Rattle.std.specs.Prelude.{ℕ, ◌+◌, ◌*◌, ◌<◌, ◌≡◌, refl, ◌⊎◌, Bool, true, false, ltb}
use Rattle.std.proofs.Common.{arith, sym, ◌∙◌, inl, inr, ⊎_elim, true≢false, lt-ltb, le-ltb, eq-eqb, ne_eqb, ltb-true, ltb-false}
use Rattle.std.proofs.Math.Bool.{or-false, and-false}
use Rattle.std.proofs.Math.Arith.{digits_lt}
use Rattle.types.specs.declared.Version.{Version}
use Rattle.types.specs.Order.{then_by, below}

pub then_by_ne : (a b : ℕ) (rest : Bool) → (a ≡ b → ⊥) → then_by a b rest ≡ ltb a b
unfolding then_by
then_by_ne a b rest ne = simp (ne_eqb a b ne, or-false)

pub then_by-eq : (a b : ℕ) (rest : Bool) → a ≡ b → then_by a b rest ≡ rest
unfolding then_by
then_by-eq a b rest e = simp (le-ltb a b (omega arith), eq-eqb a b e)

pub then_by-last : (a b : ℕ) → then_by a b false ≡ ltb a b
unfolding then_by
then_by-last a b = simp (and-false, or-false)

then_by_self : (a : ℕ) (rest : Bool) → then_by a a rest ≡ rest
then_by_self a rest = then_by-eq a a rest refl

then_by-less : (a b : ℕ) (rest : Bool) → a < b → then_by a b rest ≡ true
then_by-less a b rest h = then_by_ne a b rest (λ e. omega arith) ∙ lt-ltb a b h

then_by-more : (a b : ℕ) (rest : Bool) → b < a → then_by a b rest ≡ false
then_by-more a b rest h = then_by_ne a b rest (λ e. omega arith) ∙ le-ltb a b (omega arith)

data Compared (a b : ℕ) : Type 0 where
  less : a < b → Compared a b
  same : a ≡ b → Compared a b
  more : b < a → Compared a b

compared : (a b : ℕ) → Compared a b
compared a b = go (ltb a b) (ltb b a) refl refl
  where
    go : (l m : Bool) → ltb a b ≡ l → ltb b a ≡ m → Compared a b
    go true m p q = less (ltb-true a b p)
    go false true p q = more (ltb-true b a q)
    go false false p q = same (omega (arith, ltb-false a b p, ltb-false b a q))

-- what an answer of `then_by` tells
then_by-true : (a b : ℕ) (rest : Bool) → then_by a b rest ≡ true → (a < b) ⊎ ((a ≡ b) × (rest ≡ true))
then_by-true a b rest h = go (compared a b)
  where
    go : Compared a b → (a < b) ⊎ ((a ≡ b) × (rest ≡ true))
    go (less l) = inl l
    go (same e) = inr (e, sym (then_by-eq a b rest e) ∙ h)
    go (more m) = absurd (true≢false (sym h ∙ then_by-more a b rest m))

then_by-false : (a b : ℕ) (rest : Bool) → then_by a b rest ≡ false → (b < a) ⊎ ((a ≡ b) × (rest ≡ false))
then_by-false a b rest h = go (compared a b)
  where
    go : Compared a b → (b < a) ⊎ ((a ≡ b) × (rest ≡ false))
    go (less l) = absurd (true≢false (sym (then_by-less a b rest l) ∙ h))
    go (same e) = inr (e, sym (then_by-eq a b rest e) ∙ h)
    go (more m) = inl m

then_by_trans : (a b c : ℕ) (p q r : Bool) → (p ≡ true → q ≡ true → r ≡ true)
    → then_by a b p ≡ true → then_by b c q ≡ true → then_by a c r ≡ true
then_by_trans a b c p q r t h k =
    ⊎_elim
    (λ x. then_by-less a c r (⊎_elim (λ y. omega arith) (λ y. omega arith) (then_by-true b c q k)))
    (λ x. ⊎_elim (λ y. then_by-less a c r (omega arith)) (λ y. then_by-eq a c r (x.0 ∙ y.0) ∙ t x.1 y.1) (then_by-true b c q k))
    (then_by-true a b p h)

then_by-total : (a b : ℕ) (p q : Bool) → then_by a b p ≡ false → then_by b a q ≡ false → (a ≡ b) × (p ≡ false) × (q ≡ false)
then_by-total a b p q h k =
    ⊎_elim
    (λ x. absurd (⊎_elim (λ y. omega arith) (λ y. omega arith) (then_by-false b a q k)))
    (λ x. ⊎_elim (λ y. absurd (omega arith)) (λ y. (x.0, x.1, y.1)) (then_by-false b a q k))
    (then_by-false a b p h)

ltb-add : (k x y : ℕ) → ltb x y ≡ ltb (k + x) (k + y)
ltb-add k x y = go (ltb x y) refl
  where
    go : (t : Bool) → ltb x y ≡ t → ltb x y ≡ ltb (k + x) (k + y)
    go true p = p ∙ sym (lt-ltb (k + x) (k + y) (omega (arith, ltb-true x y p)))
    go false p = p ∙ sym (le-ltb (k + x) (k + y) (omega (arith, ltb-false x y p)))

-- the order of two digits to the base m
then_by_digits : (a b x y m : ℕ) → x < m → y < m → then_by a b (ltb x y) ≡ ltb (a * m + x) (b * m + y)
then_by_digits a b x y m hx hy = go (compared a b)
  where
    go : Compared a b → then_by a b (ltb x y) ≡ ltb (a * m + x) (b * m + y)
    go (less l) = then_by-less a b (ltb x y) l ∙ sym (lt-ltb (a * m + x) (b * m + y) (omega (arith, digits_lt l hx)))
    go (same e) = then_by-eq a b (ltb x y) e ∙ rw e (ltb-add (b * m) x y)
    go (more l) = then_by-more a b (ltb x y) l ∙ sym (le-ltb (a * m + x) (b * m + y) (omega (arith, digits_lt l hy)))

pub record StrictTotalOrder (less : Version → Version → Bool) : Type 0 where
  pub irreflexive : (v : Version) → less v v ≡ false
  pub transitive : (u v w : Version) → less u v ≡ true → less v w ≡ true → less u w ≡ true
  pub total : (v w : Version) → less v w ≡ false → less w v ≡ false → v ≡ w

pub strict_total : StrictTotalOrder below
unfolding below
strict_total = record {
  irreflexive = λ v. simp then_by_self;
  transitive = λ u v w.
      then_by_trans u.major v.major w.major _ _ _
      (then_by_trans u.minor v.minor w.minor _ _ _
      (then_by_trans u.patch v.patch w.patch _ _ _ (λ p q. q)));
  total = λ v w h k.
      let a = then_by-total v.major w.major _ _ h k in
      let b = then_by-total v.minor w.minor _ _ a.1 a.2 in
      let c = then_by-total v.patch w.patch _ _ b.1 b.2 in
      λ i. record { major = a.0 i; minor = b.0 i; patch = c.0 i };
}

-- a version as one number
unfoldable pub number : Version → ℕ
number v = v.major * 65536 + (v.minor * 256 + v.patch)

-- the fields are bytes, as the code's are
pub record Bytes (v : Version) : Type 0 where
  pub major : v.major < 256
  pub minor : v.minor < 256
  pub patch : v.patch < 256

pub below-number : (v w : Version) → Bytes v → Bytes w → below v w ≡ ltb (number v) (number w)
unfolding below number
below-number v w p q =
    rw (then_by-last, then_by_digits v.minor w.minor v.patch w.patch 256 p.patch q.patch)
    (then_by_digits v.major w.major _ _ 65536 (omega arith) (omega arith))
