-- The law of `by_index`: where the reader by index answers with the items of a list, what is made of its answers is what is made of the list.
use Rattle.std.specs.Prelude.{ℕ, ◌+◌, ◌<◌, ◌≡◌, drop}
use Rattle.std.proofs.Common.{arith, ◌∙◌, drop_at}
use mathlib.Core.List.{List, [], ◌∷◌, ◌++◌, map, flat_map, append_assoc}
use Rattle.std.proofs.Math.Path.{refl, sym, ap}
use Rattle.std.proofs.Math.ListN.{length, length-append}
use Rattle.wire.proofs.ListOfLaws.{Indexed}
use Rattle.wire.specs.Reader.{Answer, got, Reader, map_answer}
use Rattle.wire.proofs.ReaderLaws.{map-value}
use Rattle.handshake.specs.Tables.{rows}
use Rattle.handshake.specs.ByIndex.{made_of, by_index}

-- two lists that are equal have the same element after as many others
same_between : {C : Type 0} (k : List C) (a : C) (l k' : List C) (a' : C) (l' : List C) → k ++ (a ∷ l) ≡ k' ++ (a' ∷ l') → length k ≡ length k' → a ≡ a'
same_between k a l k' a' l' e n =
    let d : a ∷ l ≡ a' ∷ l' = sym (drop_at k (a ∷ l) (length k') n) ∙ ap (drop (length k')) e ∙ drop_at k' (a' ∷ l') (length k') refl in
    cc

-- where the answer for each index below the length of a list is made the value of the item with that index, the answers are made the values of the list
module _ {A B C : Type 0} (f : A → B) (answer : ℕ → Answer A) (value : C → B) (p : List C → Reader C) (s : List ℕ) (at : ℕ) (all : List C)
    (each : (k : ℕ) → k < length all → (x : Indexed p s at k all) × (made_of f (answer k) ≡ value x.value ∷ [])) where
  from-index : (done l : List C) → all ≡ done ++ l → flat_map (made_of f) (rows answer (length done) (length l)) ≡ map value l
  unfolding rows flat_map
  from-index done [] e = refl
  from-index done (c ∷ l) e =
      let x = each (length done) (omega (arith, ap length e, length-append done (c ∷ l))) in
      let v : x.0.value ≡ c = same_between x.0.before x.0.value x.0.rest done c l (sym x.0.all ∙ e) x.0.counted in
      let n : length done + 1 ≡ length (done ++ (c ∷ [])) = omega (arith, length-append done (c ∷ [])) in
      rw (x.1, v, n) (ap (λ (r : List B). value c ∷ r) (from-index (done ++ (c ∷ [])) l (e ∙ sym (append_assoc done (c ∷ []) l))))

  pub by_index_lem : by_index f answer (length all) ≡ map value all
  unfolding by_index
  by_index_lem = from-index [] all refl

-- what is made of an answer that is seen through a function
pub made_of_lem : {A B C : Type 0} (f : A → B) (see : C → A) {r : Answer C} {c : C} {n : ℕ} {b : B} → r ≡ got c n → f (see c) ≡ b → made_of f (map_answer see r) ≡ b ∷ []
made_of_lem f see {c = c} {n = n} q e = rw (q, map-value see c n, e)
