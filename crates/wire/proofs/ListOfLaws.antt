-- Laws of `list_of`: n items are n, each of them is read after those before it, and so is the one with an index.
use Prim.Native.Nat.{ℕ, zero, suc, ◌+◌, ◌<◌}
use Rattle.std.proofs.Math.Nat.{zero-add}
use Rattle.std.proofs.Common.{arith, ◌∙◌}
use mathlib.Core.List.{List, [], ◌∷◌, ◌++◌, append-nil, append_assoc}
use Rattle.std.specs.Prelude.{◌≡◌}
use Rattle.std.proofs.Math.Path.{refl, ap, sym}
use Rattle.std.proofs.Math.ListN.{length, length-append}
use Rattle.wire.specs.Reader.{Answer, got, refused, Reader, bind, pure, and_then, fold, list_of}
use Rattle.wire.proofs.AnswerLaws.{no_answer, value_of}

-- one more item after those before
abbrev pub turn : {A : Type 0} → (List A → Reader A) → List A → Reader (List A)
turn p before = and_then (p before) (λ a. pure (before ++ (a ∷ [])))

-- after the items before, these items stand from at on, and they end at e
pub data Listed {A : Type 0} (p : List A → Reader A) (s : List ℕ) : List A → ℕ → List A → ℕ → Type 0 where
  end : {before : List A} {at : ℕ} → Listed p s before at [] at
  next : {before : List A} {at n e : ℕ} {a : A} {l : List A} → p before s at ≡ got a n → Listed p s (before ++ (a ∷ [])) n l e → Listed p s before at (a ∷ l) e

module _ {A : Type 0} (p : List A → Reader A) (s : List ℕ) where
  -- n turns add n items
  record Turned (n at : ℕ) (before l : List A) (e : ℕ) : Type 0 where
    list : List A
    all : l ≡ before ++ list
    counted : length list ≡ n
    listed : Listed p s before at list e

  turns : (n at : ℕ) (before : List A) {l : List A} {e : ℕ} → fold n (turn p) before s at ≡ got l e → Turned n at before l e
  unfolding fold
  turns zero at before {l} {e} q =
      let h : at ≡ e = cc in
      record { list = []; all = sym (value_of q) ∙ sym (append-nil before); counted = refl; listed = rw h end }
  turns (suc n) at before {l} {e} q = go (p before s at) refl q (λ a m r. turns n m (before ++ (a ∷ [])) r)
    where
      go : (r : Answer A) → p before s at ≡ r → bind (bind r (λ a m. got (before ++ (a ∷ [])) m)) (λ b m. fold n (turn p) b s m) ≡ got l e
          → ((a : A) (m : ℕ) → fold n (turn p) (before ++ (a ∷ [])) s m ≡ got l e → Turned n m (before ++ (a ∷ [])) l e) → Turned (suc n) at before l e
      go (got a m) h q rest =
          let t = rest a m q in
          record { list = a ∷ t.list; all = t.all ∙ append_assoc before (a ∷ []) t.list; counted = ap suc t.counted; listed = next h t.listed }
      go (refused m) h q rest = no_answer q

  -- n items are n
  pub listed : (n at : ℕ) {l : List A} {e : ℕ} → list_of n p s at ≡ got l e → (length l ≡ n) × Listed p s [] at l e
  unfolding list_of
  listed n at {l} {e} q =
      let t = turns n at [] q in
      let h : l ≡ t.list = t.all in
      (ap length h ∙ t.counted, rw h t.listed)

  -- the item of l with index k, and that it is read after those before it
  pub record Indexed (at k : ℕ) (l : List A) : Type 0 where
    pub before : List A
    pub value : A
    pub rest : List A
    pub from : ℕ
    pub next : ℕ
    pub counted : length before ≡ k
    pub all : l ≡ before ++ (value ∷ rest)
    pub skipped : list_of k p s at ≡ got before from
    pub read : p before s from ≡ got value next

  record IndexedFrom (at k : ℕ) (before l : List A) : Type 0 where
    mid : List A
    value : A
    rest : List A
    from : ℕ
    to : ℕ
    counted : length mid ≡ length before + k
    all : before ++ l ≡ mid ++ (value ∷ rest)
    skipped : fold k (turn p) before s at ≡ got mid from
    read : p mid s from ≡ got value to

  indexed-from : (k : ℕ) {before : List A} {at : ℕ} {l : List A} {e : ℕ} → Listed p s before at l e → k < length l → IndexedFrom at k before l
  unfolding fold
  indexed-from k end h = absurd (omega arith)
  indexed-from zero (next {before = before} {at = at} {n = n} {a = a} {l = l} q more) h =
      record { mid = before; value = a; rest = l; from = at; to = n; counted = omega arith; all = refl; skipped = refl; read = q }
  indexed-from (suc k) (next {before = before} {a = a} {l = l} q more) h =
      let t = indexed-from k more (omega arith) in
      record {
        mid = t.mid;
        value = t.value;
        rest = t.rest;
        from = t.from;
        to = t.to;
        counted = omega (arith, t.counted, length-append before (a ∷ []));
        all = sym (append_assoc before (a ∷ []) l) ∙ t.all;
        skipped = rw q t.skipped;
        read = t.read;
      }

  pub indexed : (k : ℕ) {at : ℕ} {l : List A} {e : ℕ} → Listed p s [] at l e → k < length l → Indexed at k l
  unfolding list_of
  indexed k q h =
      let t = indexed-from k q h in
      record {
        before = t.mid;
        value = t.value;
        rest = t.rest;
        from = t.from;
        next = t.to;
        counted = t.counted ∙ zero-add k;
        all = t.all;
        skipped = t.skipped;
        read = t.read;
      }
