-- The cut law is proved for each reader of `Reader` and for their composition; a format then has it because its fields have it.
use Prim.Native.Nat.{ℕ, zero, suc, ◌+◌, ◌≤◌, ◌<◌}
use Rattle.std.proofs.Math.Decide.{dec_le}
use Rattle.std.proofs.Common.{arith, ap, sym, ◌∙◌, get_or-take, length-take-le, take-take}
use Rattle.std.specs.Prelude.{Bool, true, false, cond, List, [], ◌∷◌, ◌++◌, ◌≡◌, refl, T, length, get_or, take, drop}
use Rattle.std.proofs.Math.Seq.{take-length}
use Rattle.wire.specs.Reader.{Answer, got, refused, Reader, bind, pure, and_then, place, refuse, guard, field, byte, Segment, part, fold, list_of}
use Rattle.wire.proofs.AnswerLaws.{no_answer}
use Rattle.wire.proofs.ReaderLaws.{field-got, field_missing}
use Rattle.wire.specs.Stable.{Beyond, CutTo, kept, own, short, Stable, AtLeast, Local}

cut-ends : {A : Type 0} {is_cut : ℕ → Bool} {k : ℕ} {r w : Answer A} → CutTo is_cut k r w → (a : A) (e : ℕ) → w ≡ got a e → e ≤ k
cut-ends (kept {e = e'} h) a e q = let y : e' ≡ e = cc in omega arith
cut-ends own a e q = no_answer q
cut-ends (short b t) a e q = no_answer q

-- what is read ends within the bytes
pub stable_ends : {A : Type 0} {is_cut : ℕ → Bool} {p : Reader A} → Stable is_cut p → (s : List ℕ) (at : ℕ) (a : A) (e : ℕ)
    → at ≤ length s → p s at ≡ got a e → e ≤ length s
stable_ends h s at a e g q = cut-ends (h.cut s at (length s) g (omega arith)) a e (rw take-length q)

-- ---- composition

module _ {A B : Type 0} {is_cut : ℕ → Bool} (f : A → Reader B) (hf : (a : A) → Stable is_cut (f a)) where
  bind-moves : (s : List ℕ) (at : ℕ) (r : Answer A) → ((a : A) (e : ℕ) → r ≡ got a e → (at ≤ e) × (e ≤ length s)) → (b : B) (e : ℕ)
      → bind r (λ a next. f a s next) ≡ got b e → at ≤ e
  bind-moves s at (got a d) m b e q =
      let u = m a d refl in
      let v : d ≤ e = (hf a).moves s d b e u.1 q in
      omega arith
  bind-moves s at (refused n) m b e q = no_answer q

  later_beyond : (s : List ℕ) (k : ℕ) (a : A) (d : ℕ) → k < d → d ≤ length s → (r : Answer B) → f a s d ≡ r → Beyond k r
  later_beyond s k a d h u (got b e) q = let v : d ≤ e = (hf a).moves s d b e u q in omega arith
  later_beyond s k a d h u (refused m) q = tt

  bind_beyond : (s : List ℕ) (k : ℕ) (r : Answer A) → ((a : A) (e : ℕ) → r ≡ got a e → e ≤ length s) → Beyond k r
      → Beyond k (bind r (λ a next. f a s next))
  bind_beyond s k (got a d) m h = later_beyond s k a d h (m a d refl) (f a s d) refl
  bind_beyond s k (refused n) m h = tt

  bind-cut : (s : List ℕ) (k : ℕ) → k ≤ length s → {r w : Answer A} → ((a : A) (e : ℕ) → r ≡ got a e → e ≤ length s) → CutTo is_cut k r w
      → CutTo is_cut k (bind r (λ a next. f a s next)) (bind w (λ a next. f a (take k s) next))
  bind-cut s k h m (kept {a = a} {e = e} u) = (hf a).cut s e k u h
  bind-cut s k h m own = own
  bind-cut s k h m (short {r = r} b t) = short (bind_beyond s k r m b) t

pub stable_then : {A B : Type 0} {is_cut : ℕ → Bool} {p : Reader A} {f : A → Reader B} → Stable is_cut p → ((a : A) → Stable is_cut (f a))
    → Stable is_cut (and_then p f)
stable_then {p = p} {f = f} hp hf = record {
  moves = λ s at b e h q. bind-moves f hf s at (p s at) (λ a d r. (hp.moves s at a d h r, stable_ends hp s at a d h r)) b e q;
  cut = λ s at k h u. bind-cut f hf s k u (λ a e q. stable_ends hp s at a e (omega arith) q) (hp.cut s at k h u);
}

module _ {A : Type 0} {is_cut : ℕ → Bool} where
  pub stable_pure : (a : A) → Stable is_cut (pure a)
  stable_pure a = record { moves = λ s at b e h q. (let y : at ≡ e = cc in omega arith); cut = λ s at k h u. kept h }

  pub stable_refuse : (m : ℕ) → Stable {A = A} is_cut (refuse m)
  stable_refuse m = record { moves = λ s at b e h q. no_answer q; cut = λ s at k h u. own }

  pub stable_cond : (b : Bool) {p q : Reader A} → Stable is_cut p → Stable is_cut q → Stable is_cut (cond b p q)
  stable_cond true hp hq = hp
  stable_cond false hp hq = hq

  pub stable_guard : (b : Bool) (m : ℕ) (a : A) → Stable is_cut (guard b m a)
  stable_guard true m a = stable_pure a
  stable_guard false m a = stable_refuse m

  pub stable_fold : (n : ℕ) {p : A → Reader A} → ((a : A) → Stable is_cut (p a)) → (a : A) → Stable is_cut (fold n p a)
  unfolding fold
  stable_fold zero h a = stable_pure a
  stable_fold (suc n) h a = stable_then (h a) (λ b. stable_fold n h b)

pub stable_list_of : {A : Type 0} {is_cut : ℕ → Bool} (n : ℕ) {p : List A → Reader A} → ((before : List A) → Stable is_cut (p before)) → Stable is_cut (list_of n p)
unfolding list_of
stable_list_of n h = stable_fold n (λ before. stable_then (h before) (λ a. stable_pure (before ++ (a ∷ [])))) []

pub stable_place : {is_cut : ℕ → Bool} → Stable is_cut place
stable_place = record { moves = λ s at b e h q. (let y : at ≡ e = cc in omega arith); cut = λ s at k h u. kept h }

-- ---- fields

module _ {A : Type 0} (m n : ℕ) (v : List ℕ → ℕ → A) where
  field_end : (s : List ℕ) (at : ℕ) (a : A) (e : ℕ) → at ≤ length s → field m n v s at ≡ got a e → e ≡ at + n
  field_end s at a e h q = side (dec_le (at + n) (length s))
    where
      side : Dec (at + n ≤ length s) → e ≡ at + n
      side (yes g) = let r : got (v s at) (at + n) ≡ got a e = sym (field-got m n v s at g) ∙ q in cc
      side (no g) = no_answer (sym (field_missing m n v s at h (omega arith)) ∙ q)

  pub stable_field : {is_cut : ℕ → Bool} → T (is_cut m) → Local n v → Stable is_cut (field m n v)
  stable_field {is_cut} t l = record {
    moves = λ s at a e h q. omega (arith, field_end s at a e h q);
    cut = λ s at k h u. side s at k h u (dec_le (at + n) k) (dec_le (at + n) (length s));
  }
    where
      side : (s : List ℕ) (at k : ℕ) → at ≤ k → k ≤ length s → Dec (at + n ≤ k) → Dec (at + n ≤ length s)
          → CutTo is_cut k (field m n v s at) (field m n v (take k s) at)
      side s at k h u (yes g) x =
          let c : length (take k s) ≡ k = length-take-le k s u in
          rw (field-got m n v s at (omega arith), field-got m n v (take k s) at (omega arith), l.same s at k g u) (kept g)
      side s at k h u (no g) (yes g') =
          let c : length (take k s) ≡ k = length-take-le k s u in
          rw (field-got m n v s at g', field_missing m n v (take k s) at (omega arith) (omega arith)) (short {r = got (v s at) (at + n)} (omega arith) t)
      side s at k h u (no g) (no g') =
          let c : length (take k s) ≡ k = length-take-le k s u in
          rw (field_missing m n v s at (omega arith) (omega arith), field_missing m n v (take k s) at (omega arith) (omega arith)) own

  pub least-field : AtLeast n (field m n v)
  least-field = record { moves = λ s at a e h q. omega (arith, field_end s at a e h q) }

pub take-drop-take : (n at k : ℕ) (s : List ℕ) → at + n ≤ k → take n (drop at (take k s)) ≡ take n (drop at s)
take-drop-take n zero k s h = take-take n k s (omega arith)
take-drop-take n (suc at) zero s h = absurd (omega arith)
take-drop-take n (suc at) (suc k) [] h = refl
take-drop-take n (suc at) (suc k) (x ∷ s) h = take-drop-take n at k s (omega arith)

local_part : (n : ℕ) → Local {A = Segment} n (λ s at. record { start = at; bytes = take n (drop at s) })
local_part n = record { same = λ s at k g u. ap {B = Segment} (λ (l : List ℕ). record { start = at; bytes = l }) (take-drop-take n at k s g) }

-- missing bytes are refused with 1 in a handshake, an entry or a body
module _ {is_cut : ℕ → Bool} (one : T (is_cut 1)) where
  pub stable_byte : Stable is_cut byte
  stable_byte = stable_field 1 1 (λ s at. get_or s at 0) one (record { same = λ s at k g u. get_or-take k s at 0 (omega arith) })

  pub stable_part : (n : ℕ) → Stable is_cut (part n)
  stable_part n = stable_field 1 n (λ s at. record { start = at; bytes = take n (drop at s) }) one (local_part n)

-- ---- how many bytes a reader takes at least

pub least-byte : AtLeast 1 byte
least-byte = least-field 1 1 (λ s at. get_or s at 0)

pub least-none : {A : Type 0} {is_cut : ℕ → Bool} {p : Reader A} → Stable is_cut p → AtLeast 0 p
least-none h = record { moves = λ s at a e g q. omega (arith, h.moves s at a e g q) }

-- one reader and then another
pub least_then : {A B : Type 0} {is_cut : ℕ → Bool} {p : Reader A} {f : A → Reader B} (m n : ℕ) → Stable is_cut p → AtLeast m p
    → ((a : A) → AtLeast n (f a)) → AtLeast (m + n) (and_then p f)
least_then {A} {B} {is_cut} {p} {f} m n hp lp lf =
    record { moves = λ s at b e h q. go s at (p s at) (λ a d r. (lp.moves s at a d h r, stable_ends hp s at a d h r)) b e q }
  where
    go : (s : List ℕ) (at : ℕ) (r : Answer A) → ((a : A) (e : ℕ) → r ≡ got a e → (at + m ≤ e) × (e ≤ length s)) → (b : B) (e : ℕ)
        → bind r (λ a next. f a s next) ≡ got b e → at + (m + n) ≤ e
    go s at (got a d) w b e q =
        let u = w a d refl in
        let v : d + n ≤ e = (lf a).moves s d b e u.1 q in
        omega arith
    go s at (refused k) w b e q = no_answer q
