-- What is asked of two parts one after the other is asked of both: the first question that one of them fails is the first that they fail together.
use Rattle.std.specs.Prelude.{ℕ, suc, ◌+◌, ◌≤◌, ◌<◌, Bool, true, false, cond, ◌&&◌, List, [], ◌∷◌, map, ◌≡◌, eqb, ltb}
use Rattle.std.proofs.Common.{arith, ⊎_elim, sym, ◌∙◌}
use Rattle.std.proofs.Math.Path.{refl}
use borrow.Author.Tests.{lt-ltb, le-ltb, eq-eqb}
use Rattle.wire.proofs.BytesLaws.{and-true}
use Rattle.wire.specs.Numbers.{lt-or_ge}
use Rattle.wire.specs.Output.{ask, sized, Size, Bytes, Unsized as Refused}
use Rattle.wire.specs.Earliest.{position, earlier, together, Twice, numbers, of_one, of_other, of_both, fresh, distinct}

-- a refusal with another number than n
unfoldable Apart : ℕ → Size → Type 0
Apart n (Bytes m) = Unit {0}
Apart n (Refused p) = eqb p n ≡ false

ltb-suc : (a b : ℕ) → ltb (suc a) (suc b) ≡ ltb a b
ltb-suc a b =
    ⊎_elim
    (λ (h : a < b). lt-ltb (suc a) (suc b) (omega arith) ∙ sym (lt-ltb a b h))
    (λ (h : b ≤ a). le-ltb (suc a) (suc b) (omega arith) ∙ sym (le-ltb a b h))
    (lt-or_ge a b)

apart : (holds : Twice → Bool) (ts : List Twice) (n m : ℕ) → fresh n (numbers ts) ≡ true → Apart n (sized (map (λ t. ask t.number (holds t)) ts) m)
unfolding Apart sized fresh
apart holds [] n m h = tt
apart holds (t ∷ ts) n m h = go (eqb t.number n) refl h (λ e. apart holds ts n m e)
  where
    step : (b : Bool) (s : Size) → eqb t.number n ≡ false → Apart n s → Apart n (cond b s (Refused t.number))
    step true s e a = a
    step false s e a = e

    go : (b : Bool) → eqb t.number n ≡ b → cond b false (fresh n (numbers ts)) ≡ true
        → (fresh n (numbers ts) ≡ true → Apart n (sized (map (λ t. ask t.number (holds t)) ts) m))
        → Apart n (cond (holds t) (sized (map (λ t. ask t.number (holds t)) ts) m) (Refused t.number))
    go true e h rest = let z : ◌≡◌ {A = ℕ} 0 1 = cc in absurd (omega arith)
    go false e h rest = step (holds t) _ e (rest h)

module _ (n : ℕ) (ns : List ℕ) where
  -- n, a number before all others, refuses neither
  neither : (a b : Size) → Apart n a → Apart n b → together ns a b ≡ together (n ∷ ns) a b
  unfolding Apart together earlier position
  neither (Bytes k) (Bytes l) x y = refl
  neither (Bytes k) (Refused q) x y = refl
  neither (Refused p) (Bytes l) x y = refl
  neither (Refused p) (Refused q) x y = rw (x, y, ltb-suc (position ns q) (position ns p))

  by_one : (b : Size) → Refused n ≡ together (n ∷ ns) (Refused n) b
  unfolding together earlier position
  by_one (Bytes l) = refl
  by_one (Refused q) = rw (eq-eqb n n refl, le-ltb (cond (eqb q n) 0 (suc (position ns q))) 0 (omega arith))

  by_other : (a : Size) → Apart n a → Refused n ≡ together (n ∷ ns) a (Refused n)
  unfolding Apart together earlier position
  by_other (Bytes k) x = refl
  by_other (Refused p) x = rw (eq-eqb n n refl, x, lt-ltb 0 (suc (position ns p)) (omega arith))

pub earliest : (ts : List Twice) (m k : ℕ) → distinct (numbers ts) ≡ true
    → sized (of_both ts) (m + k) ≡ together (numbers ts) (sized (of_one ts) m) (sized (of_other ts) k)
unfolding sized together distinct
earliest [] m k d = refl
earliest (t ∷ ts) m k d =
    let f = and-true (fresh t.number (numbers ts)) (distinct (numbers ts)) d in
    go t.one t.other (sized (of_one ts) m) (sized (of_other ts) k) (apart (λ t. t.one) ts t.number m f.0) (apart (λ t. t.other) ts t.number k f.0) (earliest ts m k f.1)
  where
    go : (x y : Bool) (a b : Size) → Apart t.number a → Apart t.number b → sized (of_both ts) (m + k) ≡ together (numbers ts) a b
        → cond (x && y) (sized (of_both ts) (m + k)) (Refused t.number)
        ≡ together (t.number ∷ numbers ts) (cond x a (Refused t.number)) (cond y b (Refused t.number))
    go true true a b p q e = e ∙ neither t.number (numbers ts) a b p q
    go true false a b p q e = by_other t.number (numbers ts) a p
    go false y a b p q e = by_one t.number (numbers ts) (cond y b (Refused t.number))
