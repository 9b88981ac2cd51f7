-- Laws of `Bytes`: a number and its bytes, highest first, give each other; two lists are the same exactly when they are equal; what holds of every
-- element holds of each; and the bytes of a list of values, one after the other.
use Prim.Native.Nat.{ℕ, zero, suc, ◌+◌, ◌*◌, ◌/◌, ◌%◌, ◌^◌, ◌<◌}
use Rattle.std.proofs.Common.{zero-add, add-mul, mul_assoc, mod-eq_of_lt, zero-mul, mul-one, arith, inl, inr, ap₂, ◌∙◌, lt-ltb, ltb-true, eq-eqb, eqb-true}
use Rattle.std.proofs.Math.Nat.{mod-one, pow-succ', suc-mul}
use Rattle.std.specs.Prelude.{Bool, true, false, ◌&&◌, ◌||◌, ◌↔◌, ◌⊎◌, ◌≡◌, eqb, ltb, length, take, drop}
use Rattle.std.proofs.Math.Bool.{and_assoc}
use mathlib.Core.List.{List, [], ◌∷◌, ◌++◌, map, flat_map, append_assoc}
use Rattle.std.proofs.Math.Path.{refl, ap, sym}
use Rattle.std.proofs.Math.Arith.{digits_lt, digits_div, digits_mod, mod-mul}
use Rattle.std.proofs.Math.ListN.{length-append}
use Rattle.std.proofs.lemmas.Cmp.{nat_eq_equiv}
use Rattle.std.specs.Cmp.Lexicographic.{pointwise}
use Rattle.wire.specs.Bytes.{big_endian_from, big_endian, big_endian_bytes, same_bytes, every, Each, none, more}

pub and-true : (t u : Bool) → t && u ≡ true → (t ≡ true) × (u ≡ true)
and-true true u e = (refl, e)
and-true false u e = let z : ◌≡◌ {A = ℕ} 0 1 = cc in absurd (omega arith)

pub or-true : (t u : Bool) → t || u ≡ true → (t ≡ true) ⊎ (u ≡ true)
or-true true u e = inl refl
or-true false u e = inr e

-- ---- every element

module _ {A : Type 0} {P : A → Type 0} where
  pub each-append-left : (k l : List A) → Each P (k ++ l) → Each P k
  each-append-left [] l h = none
  each-append-left (a ∷ k) l (more p h) = more p (each-append-left k l h)

  pub each-append_right : (k l : List A) → Each P (k ++ l) → Each P l
  each-append_right [] l h = h
  each-append_right (a ∷ k) l (more p h) = each-append_right k l h

  pub each_first : {a : A} {l : List A} → Each P (a ∷ l) → P a
  each_first (more p h) = p

  pub each-rest : {a : A} {l : List A} → Each P (a ∷ l) → Each P l
  each-rest (more p h) = h

  -- P of the element between two parts of the list
  pub each_between : (k : List A) (a : A) (l : List A) → Each P (k ++ (a ∷ l)) → P a
  each_between k a l h = each_first (each-append_right k (a ∷ l) h)

  pub each_of : {Q : A → Type 0} → ((a : A) → P a → Q a) → {l : List A} → Each P l → Each Q l
  each_of f none = none
  each_of f (more {a = a} p h) = more (f a p) (each_of f h)

  pub each_both : {Q R : A → Type 0} → ((a : A) → P a → Q a → R a) → {l : List A} → Each P l → Each Q l → Each R l
  each_both f none none = none
  each_both f (more {a = a} p h) (more q g) = more (f a p q) (each_both f h g)

module _ {A : Type 0} (test : A → Bool) where
  pub every-each : (l : List A) → every test l ≡ true → Each (λ a. test a ≡ true) l
  unfolding every
  every-each [] h = none
  every-each (a ∷ l) h = let b = and-true (test a) (every test l) h in more b.0 (every-each l b.1)

  pub each-every : {l : List A} → Each (λ a. test a ≡ true) l → every test l ≡ true
  unfolding every
  each-every none = refl
  each-every (more {a = a} {l = l} p h) = rw p (each-every h)

  pub every_append : (k l : List A) → every test (k ++ l) ≡ every test k && every test l
  unfolding every
  every_append [] l = refl
  every_append (a ∷ k) l = ap (λ (b : Bool). test a && b) (every_append k l) ∙ sym (and_assoc (test a) (every test k) (every test l))

  pub every_take : (n : ℕ) (l : List A) → every test l ≡ true → every test (take n l) ≡ true
  unfolding every
  every_take zero l h = refl
  every_take (suc n) [] h = refl
  every_take (suc n) (a ∷ l) h = let b = and-true (test a) (every test l) h in rw b.0 (every_take n l b.1)

  pub every_drop : (n : ℕ) (l : List A) → every test l ≡ true → every test (drop n l) ≡ true
  unfolding every
  every_drop zero l h = h
  every_drop (suc n) [] h = refl
  every_drop (suc n) (a ∷ l) h = every_drop n l (and-true (test a) (every test l) h).1

-- two tests of every element
pub every-and : {A : Type 0} (t u : A → Bool) (l : List A) → every (λ a. t a && u a) l ≡ every t l && every u l
unfolding every
every-and t u [] = refl
every-and t u (a ∷ l) = rw (every-and t u l) (swap (t a) (u a) (every t l) (every u l))
  where
    swap : (x y v w : Bool) → x && y && (v && w) ≡ x && v && (y && w)
    swap true true v w = refl
    swap true false true w = refl
    swap true false false w = refl
    swap false y v w = refl

pub every_map : {A B : Type 0} (test : B → Bool) (f : A → B) (l : List A) → every test (map f l) ≡ every (λ a. test (f a)) l
unfolding every
every_map test f [] = refl
every_map test f (a ∷ l) = ap (λ (b : Bool). test (f a) && b) (every_map test f l)

-- ---- the same bytes

pub same_equal : (k l : List ℕ) → same_bytes k l ≡ true → k ≡ l
unfolding same_bytes
same_equal [] [] h = refl
same_equal [] (b ∷ l) h = let z : ◌≡◌ {A = ℕ} 0 1 = cc in absurd (omega arith)
same_equal (a ∷ k) [] h = let z : ◌≡◌ {A = ℕ} 0 1 = cc in absurd (omega arith)
same_equal (a ∷ k) (b ∷ l) h =
    let c = and-true (eqb a b) (same_bytes k l) h in
    ap₂ (λ (x : ℕ) (y : List ℕ). x ∷ y) (eqb-true a b c.0) (same_equal k l c.1)

pub same_self : (l : List ℕ) → same_bytes l l ≡ true
unfolding same_bytes
same_self [] = refl
same_self (b ∷ l) = rw (eq-eqb b b refl) (same_self l)

pub same_exactly : (k l : List ℕ) → (same_bytes k l ≡ true) ↔ (k ≡ l)
same_exactly k l = (same_equal k l, λ e. rw e (same_self l))

-- what `==` of slices and `starts_with` say
pub same_pointwise : (k l : List ℕ) → pointwise eqb l k ≡ same_bytes k l
unfolding same_bytes
same_pointwise [] [] = refl
same_pointwise [] (b ∷ l) = refl
same_pointwise (a ∷ k) [] = refl
same_pointwise (a ∷ k) (b ∷ l) = ap₂ (λ (x y : Bool). x && y) (nat_eq_equiv.symm b a) (same_pointwise k l)

pub same_none : (l : List ℕ) → 0 < length l → same_bytes [] l ≡ false
unfolding same_bytes
same_none [] h = absurd (omega arith)
same_none (b ∷ l) h = refl

-- ---- numbers, the highest byte first

abbrev pub is_byte : ℕ → Bool
is_byte b = ltb b 256

pub length-big_endian_bytes : (k n : ℕ) → length (big_endian_bytes k n) ≡ k
unfolding big_endian_bytes
length-big_endian_bytes zero n = refl
length-big_endian_bytes (suc k) n = ap suc (length-big_endian_bytes k n)

pub bytes-big_endian_bytes : (k n : ℕ) → every is_byte (big_endian_bytes k n) ≡ true
unfolding big_endian_bytes every
bytes-big_endian_bytes zero n = refl
bytes-big_endian_bytes (suc k) n = rw (lt-ltb (n / 256 ^ k % 256) 256 (omega arith)) (bytes-big_endian_bytes k n)

-- n before the bytes
big_endian_from_lem : (n : ℕ) (bs : List ℕ) → big_endian_from n bs ≡ n * 256 ^ length bs + big_endian bs
unfolding big_endian big_endian_from
big_endian_from_lem n [] = omega (arith, mul-one n)
big_endian_from_lem n (b ∷ bs) =
    let d = add-mul (n * 256) b (256 ^ length bs) in
    let m = mul_assoc n 256 (256 ^ length bs) in
    let p = ap (λ (x : ℕ). n * x) (pow-succ' 256 (length bs)) in
    omega (arith, big_endian_from_lem (n * 256 + b) bs, big_endian_from_lem (0 * 256 + b) bs)

pub big_endian-cons : (b : ℕ) (bs : List ℕ) → big_endian (b ∷ bs) ≡ b * 256 ^ length bs + big_endian bs
unfolding big_endian big_endian_from
big_endian-cons b bs = ap (λ (n : ℕ). big_endian_from n bs) (zero-add b) ∙ big_endian_from_lem b bs

pub big_endian-append : (k l : List ℕ) → big_endian (k ++ l) ≡ big_endian k * 256 ^ length l + big_endian l
unfolding big_endian big_endian_from
big_endian-append k l = from-append 0 k ∙ big_endian_from_lem (big_endian k) l
  where
    from-append : (n : ℕ) (k : List ℕ) → big_endian_from n (k ++ l) ≡ big_endian_from (big_endian_from n k) l
    from-append n [] = refl
    from-append n (b ∷ k) = from-append (n * 256 + b) k

big_endian-nil : big_endian [] ≡ 0
unfolding big_endian big_endian_from
big_endian-nil = refl

pub big_endian-below : (bs : List ℕ) → every is_byte bs ≡ true → big_endian bs < 256 ^ length bs
unfolding every
big_endian-below [] h = omega (arith, big_endian-nil)
big_endian-below (b ∷ bs) h =
    let c = and-true (is_byte b) (every is_byte bs) h in
    let l = digits_lt (ltb-true b 256 c.0) (big_endian-below bs c.1) in
    omega (arith, big_endian-cons b bs, pow-succ' 256 (length bs))

-- a number is read off its bytes
from_bytes : (m k n : ℕ) → big_endian_from m (big_endian_bytes k n) ≡ m * 256 ^ k + n % 256 ^ k
unfolding big_endian_from big_endian_bytes
from_bytes m zero n = omega (arith, mul-one m, mod-one n)
from_bytes m (suc k) n =
    let d = n / 256 ^ k % 256 in
    let e = add-mul (m * 256) d (256 ^ k) in
    let f = mul_assoc m 256 (256 ^ k) in
    let p = ap (λ (x : ℕ). m * x) (pow-succ' 256 k) in
    let q = ap (λ (x : ℕ). n % x) (pow-succ' 256 k) in
    let r : n % (256 * 256 ^ k) ≡ d * 256 ^ k + n % 256 ^ k = mod-mul n (omega arith) (pow_pos k) in
    omega (arith, from_bytes (m * 256 + d) k n)
  where
    pow_pos : (k : ℕ) → 0 < 256 ^ k
    pow_pos zero = omega arith
    pow_pos (suc k) = omega (arith, pow-succ' 256 k, pow_pos k)

pub big_endian_bytes_lem : (k n : ℕ) → n < 256 ^ k → big_endian (big_endian_bytes k n) ≡ n
unfolding big_endian
big_endian_bytes_lem k n h = from_bytes 0 k n ∙ rw zero-mul (omega (arith, mod-eq_of_lt h))

-- bytes are given back by their number
bytes_from : (m : ℕ) (bs : List ℕ) → every is_byte bs ≡ true → big_endian_bytes (length bs) (big_endian_from m bs) ≡ bs
unfolding big_endian_from big_endian_bytes every
bytes_from m [] h = refl
bytes_from m (b ∷ bs) h =
    let c = and-true (is_byte b) (every is_byte bs) h in
    let e : big_endian_from (m * 256 + b) bs / 256 ^ length bs ≡ m * 256 + b =
    ap (λ (x : ℕ). x / 256 ^ length bs) (big_endian_from_lem (m * 256 + b) bs) ∙ digits_div (m * 256 + b) (big_endian-below bs c.1) in
    ap₂ (λ (x : ℕ) (l : List ℕ). x ∷ l) (rw e (digits_mod m (ltb-true b 256 c.0))) (bytes_from (m * 256 + b) bs c.1)

pub bytes-big_endian : (bs : List ℕ) → every is_byte bs ≡ true → big_endian_bytes (length bs) (big_endian bs) ≡ bs
unfolding big_endian
bytes-big_endian bs h = bytes_from 0 bs h

-- ---- the bytes of values, one after the other

module _ {A : Type 0} (f : A → List ℕ) where
  pub flat_map_append : (k l : List A) → flat_map f (k ++ l) ≡ flat_map f k ++ flat_map f l
  unfolding flat_map
  flat_map_append [] l = refl
  flat_map_append (a ∷ k) l = ap (λ (r : List ℕ). f a ++ r) (flat_map_append k l) ∙ sym (append_assoc (f a) (flat_map f k) (flat_map f l))

  pub length_flat_map_cons : (a : A) (l : List A) → length (flat_map f (a ∷ l)) ≡ length (f a) + length (flat_map f l)
  unfolding flat_map
  length_flat_map_cons a l = length-append (f a) (flat_map f l)

  -- values of the same length
  pub length_flat_map_same : (n : ℕ) {l : List A} → Each (λ a. length (f a) ≡ n) l → length (flat_map f l) ≡ length l * n
  unfolding flat_map
  length_flat_map_same n none = sym (zero-mul n)
  length_flat_map_same n (more {a = a} {l = l} e h) =
      length-append (f a) (flat_map f l) ∙ omega (arith, length_flat_map_same n h, suc-mul (length l) n)
