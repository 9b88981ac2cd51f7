-- Laws of an answer and of `bind`: a refusal is no value, a value at the end comes from a value before, and what follows may be grouped in another way.
use Rattle.std.specs.Prelude.{ℕ, ◌≡◌, refl}
use Rattle.std.proofs.Common.{arith}
use Rattle.wire.specs.Reader.{Answer, got, refused, bind}

pub no_answer : {A P : Type 0} {m : ℕ} {a : A} {e : ℕ} → refused m ≡ got a e → P
no_answer q = let z : ◌≡◌ {A = ℕ} 0 1 = cc in absurd (omega arith)

pub value_of : {A : Type 0} {a b : A} {m n : ℕ} → got a m ≡ got b n → a ≡ b
value_of e = cc

pub end_of_lem : {A : Type 0} {a b : A} {m n : ℕ} → got a m ≡ got b n → m ≡ n
end_of_lem e = cc

pub record Bound {A B : Type 0} (r : Answer A) (k : A → ℕ → Answer B) (b : B) (e : ℕ) : Type 0 where
  pub value : A
  pub next : ℕ
  pub answer : r ≡ got value next
  pub rest : k value next ≡ got b e

-- a value at the end comes from a value before
pub bind-got : {A B : Type 0} (r : Answer A) (k : A → ℕ → Answer B) {b : B} {e : ℕ} → bind r k ≡ got b e → Bound r k b e
bind-got (got a n) k q = record { value = a; next = n; answer = refl; rest = q }
bind-got (refused m) k q = no_answer q

pub bind-step : {A B C : Type 0} (r : Answer A) (f : A → ℕ → Answer C) (g : A → ℕ → Answer B) (k : B → ℕ → Answer C)
    → ((a : A) (n : ℕ) → f a n ≡ bind (g a n) k) → bind r f ≡ bind (bind r g) k
bind-step (got a n) f g k h = h a n
bind-step (refused m) f g k h = refl

pub bind-twice : {A B C D : Type 0} (r : Answer A) (f : A → ℕ → Answer D) (g : A → ℕ → Answer B) (h : B → ℕ → Answer C) (k : C → ℕ → Answer D)
    → ((a : A) (n : ℕ) → f a n ≡ bind (bind (g a n) h) k) → bind r f ≡ bind (bind (bind r g) h) k
bind-twice (got a n) f g h k e = e a n
bind-twice (refused m) f g h k e = refl
