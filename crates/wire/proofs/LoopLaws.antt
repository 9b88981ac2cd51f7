-- A loop that takes the turns of `list_of` one by one, and keeps what it says of the items so far.
use Rattle.std.specs.Prelude.{ℕ, ◌+◌, ◌≤◌, ◌<◌, List, [], ◌∷◌, ◌++◌, ◌≡◌, refl}
use Rattle.std.proofs.Math.Path.{ap}
use Rattle.std.proofs.Common.{sym, ◌∙◌}
use Rattle.wire.specs.Reader.{got, refused, Reader, map_answer, list_of}
use Rattle.wire.proofs.ReaderLaws.{FoldSoFar, fold_start, fold-turn, fold-refused, fold_end, map-value, map-refusal}
use Rattle.wire.proofs.ListOfLaws.{turn}

-- i of the n items that p reads are read; b is what is seen of them
pub record ListSoFar {A B : Type 0} (p : List A → Reader A) (see : List A → B) (s : List ℕ) (n at₀ : ℕ) (b : B) (at i : ℕ) : Type 0 where
  pub list : List A
  pub taken : FoldSoFar (turn p) s n [] at₀ list at i
  pub seen : see list ≡ b

pub list-start : {A B : Type 0} (p : List A → Reader A) (see : List A → B) (s : List ℕ) (n at : ℕ) → ListSoFar p see s n at (see []) at 0
list-start p see s n at = record { list = []; taken = fold_start (turn p) s n [] at; seen = refl }

module _ {A B : Type 0} {p : List A → Reader A} {see : List A → B} {s : List ℕ} {n at₀ : ℕ} {b : B} {at i : ℕ} (inv : ListSoFar p see s n at₀ b at i) where
  pub list_again : {a : A} {next : ℕ} {b' : B} → i < n → p inv.list s at ≡ got a next → see (inv.list ++ (a ∷ [])) ≡ b'
      → ListSoFar p see s n at₀ b' next (i + 1)
  list_again {a} {next} h q e =
      let t : turn p inv.list s at ≡ got (inv.list ++ (a ∷ [])) next = rw q in
      record { list = inv.list ++ (a ∷ []); taken = fold-turn inv.taken h t; seen = e }

  pub list-refused : {m : ℕ} → i < n → p inv.list s at ≡ refused m → refused m ≡ map_answer see (list_of n p s at₀)
  unfolding list_of
  list-refused {m} h q =
      let t : turn p inv.list s at ≡ refused m = rw q in
      rw (← fold-refused inv.taken h t) (sym (map-refusal see m))

  pub list-end : n ≤ i → got b at ≡ map_answer see (list_of n p s at₀)
  unfolding list_of
  list-end h = rw (← fold_end inv.taken h) (sym (map-value see inv.list at ∙ ap (λ (b : B). got b at) inv.seen))
