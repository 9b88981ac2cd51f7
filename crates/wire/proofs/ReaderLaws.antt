-- What a field answers, from tests on numbers; answers seen through a function; and the law of a loop that takes the turns of a `fold` one by one.
use Rattle.std.specs.Prelude.{ℕ, suc, ◌+◌, ◌-◌, ◌<◌, ◌≤◌, List, ◌⊎◌, ◌≡◌, refl, length, get_or, take, drop}
use native.Mathlib.Omega.{arith}
use Rattle.std.proofs.Math.Nat.{sub-zero}
use Rattle.std.proofs.Common.{inl, inr, ap, ◌∙◌, length-take, length-drop, le-leb}
use Rattle.std.proofs.Math.Path.{sym}
use Rattle.std.proofs.lemmas.Bool.{lt-leb}
use Rattle.wire.specs.Numbers.{lt-or_ge}
use Rattle.wire.specs.Reader.{Answer, got, refused, Reader, field, byte, Segment, part, part_of, map_answer, fold}
use Rattle.wire.proofs.AnswerLaws.{no_answer}

module _ {A : Type 0} (m n : ℕ) (v : List ℕ → ℕ → A) (s : List ℕ) (at : ℕ) where
  pub field-got : at + n ≤ length s → field m n v s at ≡ got (v s at) (at + n)
  field-got h = rw (le-leb at (length s) (omega arith), le-leb (at + n) (length s) h)

  pub field_missing : at ≤ length s → length s < at + n → field m n v s at ≡ refused m
  field_missing h g = rw (le-leb at (length s) h, lt-leb (at + n) (length s) g)

  pub field-outside : length s < at → field m n v s at ≡ refused 12
  field-outside h = rw (lt-leb at (length s) h)

-- what a field read
pub record Taken {A : Type 0} (n : ℕ) (v : List ℕ → ℕ → A) (p : Reader A) : Type 0 where
  pub read : (s : List ℕ) (at : ℕ) (a : A) (e : ℕ) → p s at ≡ got a e → (at + n ≤ length s) × (a ≡ v s at) × (e ≡ at + n)

pub field-taken : {A : Type 0} (m n : ℕ) (v : List ℕ → ℕ → A) → Taken n v (field m n v)
field-taken {A} m n v = record { read = λ s at a e q. go s at a e q (lt-or_ge (length s) at) (lt-or_ge (length s) (at + n)) }
  where
    go : (s : List ℕ) (at : ℕ) (a : A) (e : ℕ) → field m n v s at ≡ got a e → (length s < at) ⊎ (at ≤ length s) → (length s < at + n) ⊎ (at + n ≤ length s)
        → (at + n ≤ length s) × (a ≡ v s at) × (e ≡ at + n)
    go s at a e q x (inr g) = let r : got (v s at) (at + n) ≡ got a e = sym (field-got m n v s at g) ∙ q in (g, cc, cc)
    go s at a e q (inl h) (inl g) = no_answer (sym (field-outside m n v s at h) ∙ q)
    go s at a e q (inr h) (inl g) = no_answer (sym (field_missing m n v s at h g) ∙ q)

pub byte-got : (s : List ℕ) (at : ℕ) → at < length s → byte s at ≡ got (get_or s at 0) (at + 1)
byte-got s at h = field-got 1 1 (λ s at. get_or s at 0) s at (omega arith)

pub byte_missing : (s : List ℕ) (at : ℕ) → at ≡ length s → byte s at ≡ refused 1
byte_missing s at h = field_missing 1 1 (λ s at. get_or s at 0) s at (omega arith) (omega arith)

pub byte-outside : (s : List ℕ) (at : ℕ) → length s < at → byte s at ≡ refused 12
byte-outside s at h = field-outside 1 1 (λ s at. get_or s at 0) s at h

module _ (n : ℕ) (s : List ℕ) (at : ℕ) where
  pub part-got : at + n ≤ length s → part n s at ≡ got (record { start = at; bytes = take n (drop at s) }) (at + n)
  part-got h = field-got 1 n (λ s at. record { start = at; bytes = take n (drop at s) }) s at h

  pub part_missing : at ≤ length s → length s < at + n → part n s at ≡ refused 1
  part_missing h g = field_missing {A = Segment} 1 n (λ s at. record { start = at; bytes = take n (drop at s) }) s at h g

  pub part-outside : length s < at → part n s at ≡ refused 12
  part-outside h = field-outside {A = Segment} 1 n (λ s at. record { start = at; bytes = take n (drop at s) }) s at h

  pub length_part : at + n ≤ length s → length (take n (drop at s)) ≡ n
  length_part h = simp (length-take, length-drop) (omega arith)

  -- as the code gives it
  pub part-place : at + n ≤ length s → map_answer part_of (part n s at) ≡ got (record { start = at; len = n }) (at + n)
  unfolding map_answer
  part-place h = rw (part-got h, length_part h)

-- a part that was read
pub record PartAt (n : ℕ) (s : List ℕ) (at : ℕ) (g : Segment) (next : ℕ) : Type 0 where
  pub start : g.start ≡ at
  pub bytes : g.bytes ≡ take n (drop at s)
  pub inside : at + n ≤ length s
  pub end : next ≡ at + n

pub part_at : (n : ℕ) (s : List ℕ) (at : ℕ) {g : Segment} {next : ℕ} → part n s at ≡ got g next → PartAt n s at g next
part_at n s at {g} {next} q =
    let t : Taken n _ (part n) = field-taken {A = Segment} 1 n (λ s at. record { start = at; bytes = take n (drop at s) }) in
    let r = t.read s at g next q in
    record { start = ap (λ (g : Segment). g.start) r.1; bytes = ap (λ (g : Segment). g.bytes) r.1; inside = r.0; end = r.2 }

-- ---- answers seen through a function

pub map-value : {A B : Type 0} (f : A → B) (a : A) (next : ℕ) → map_answer f (got a next) ≡ got (f a) next
unfolding map_answer
map-value f a next = refl

pub map-refusal : {A B : Type 0} (f : A → B) (m : ℕ) → map_answer f (refused m) ≡ refused m
unfolding map_answer
map-refusal f m = refl

pub map-got : {A B : Type 0} (f : A → B) {r : Answer A} {b : B} {next : ℕ} → map_answer f r ≡ got b next → (a : A) × (r ≡ got a next) × (f a ≡ b)
unfolding map_answer
map-got f {r = got a n} {b = b} {next = next} e = (a, ap (got a) (cc), cc)
map-got f {r = refused m} e = no_answer e

pub map-refused : {A B : Type 0} (f : A → B) {r : Answer A} {m : ℕ} → map_answer f r ≡ refused m → r ≡ refused m
unfolding map_answer
map-refused f {r = got a n} e = no_answer (sym e)
map-refused f {r = refused n} e = ap refused (cc)

-- ---- counted loops

-- k of the n turns are done; a and at are the value and the place so far
pub record FoldSoFar {A : Type 0} (p : A → Reader A) (s : List ℕ) (n : ℕ) (a₀ : A) (at₀ : ℕ) (a : A) (at k : ℕ) : Type 0 where
  pub within : k ≤ n
  pub same : fold n p a₀ s at₀ ≡ fold (n - k) p a s at

pub fold_start : {A : Type 0} (p : A → Reader A) (s : List ℕ) (n : ℕ) (a : A) (at : ℕ) → FoldSoFar p s n a at a at 0
fold_start p s n a at = record { within = omega arith; same = rw sub-zero }

module _ {A : Type 0} {p : A → Reader A} {s : List ℕ} {n : ℕ} {a₀ : A} {at₀ : ℕ} {a : A} {at k : ℕ} (inv : FoldSoFar p s n a₀ at₀ a at k) where
  one_less : k < n → n - k ≡ suc (n - (k + 1))
  one_less h = omega arith

  pub fold-turn : {b : A} {next : ℕ} → k < n → p a s at ≡ got b next → FoldSoFar p s n a₀ at₀ b next (k + 1)
  unfolding fold
  fold-turn {b} {next} h q = record {
    within = omega arith;
    same =
        let g : fold (suc (n - (k + 1))) p a s at ≡ fold (n - (k + 1)) p b s next = rw q in
        inv.same ∙ rw (one_less h) g;
  }

  pub fold-refused : {m : ℕ} → k < n → p a s at ≡ refused m → refused m ≡ fold n p a₀ s at₀
  unfolding fold
  fold-refused {m} h q =
      let g : fold (suc (n - (k + 1))) p a s at ≡ refused m = rw q in
      sym (inv.same ∙ rw (one_less h) g)

  pub fold_end : n ≤ k → got a at ≡ fold n p a₀ s at₀
  unfolding fold
  fold_end h = let f : n - k ≡ 0 = omega arith in sym (inv.same ∙ rw f)
