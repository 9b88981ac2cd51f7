-- What is given of a body of ids, from what its parts answered.
use Prim.Native.Nat.{ℕ, ◌+◌, ◌*◌, ◌≤◌, ◌<◌}
use native.Mathlib.Omega.{arith}
use mathlib.Core.List.{List}
use mathlib.Core.Logic.{◌⊎◌, inl, inr}
use mathlib.Core.Path.{◌≡◌, sym, ◌∙◌}
use lib.ListN.{length}
use Rattle.wire.specs.Numbers.{lt-or_ge}
use Rattle.wire.specs.Reader.{got, Segment, part, list_of, map_answer}
use Rattle.wire.proofs.AnswerLaws.{no_answer}
use Rattle.wire.proofs.ReaderLaws.{part-got, map-value}
use Rattle.wire.proofs.ListOfLaws.{listed}
use Rattle.messages_inventory_read.specs.Parts.{Items, items, items_start, id_at}
use Rattle.messages_inventory_read.proofs.PartsLaws.{header-ends, items-read, ids-there, ids_missing}
use Rattle.messages_inventory_read.proofs.ItemsLaws.{number, first, item-after}
use Rattle.messages_inventory_read.specs.Answers.{inventory_in, id_of}
use Rattle.messages_inventory_read.specs.declared.Inventory.{Inventory}

-- all ids of a body that is read are in it
ids_inside_lem : (s : List ℕ) {i : Items Segment} {e : ℕ} → items (λ before. part 32) s 0 ≡ got i e → items_start s + 32 * length i.list ≤ length s
ids_inside_lem s {i} q =
    let r = items-read (λ before. part 32) s q in
    let n = (listed (λ before. part 32) s r.opening.count (items_start s) r.taken).0 in
    side r.opening.count n (header-ends s r.opened) r.taken (lt-or_ge (length s) (items_start s + 32 * r.opening.count))
  where
    side : (n : ℕ) → length i.list ≡ n → items_start s ≤ length s → {e : ℕ} → list_of n (λ before. part 32) s (items_start s) ≡ got i.list e
        → (length s < items_start s + 32 * n) ⊎ (items_start s + 32 * n ≤ length s) → items_start s + 32 * length i.list ≤ length s
    side n c inside q (inl u) = no_answer (sym (ids_missing n s (items_start s) inside u) ∙ q)
    side n c inside q (inr u) = rw c u

module _ (k : ℕ) (s : List ℕ) {i : Items Segment} {e : ℕ} (q : items (λ before. part 32) s 0 ≡ got i e) {v : Inventory} (f : inventory_in s i ≡ v) where
  -- so are those before an index, and the one with it
  pub id-fits : v.start.0 + 32 * v.count ≤ length s
  id-fits = omega (arith, ids_inside_lem s q, number (λ before. part 32) k s q f, first (λ before. part 32) k s q f)

  pub id-got : k < v.count → got (v.start.0 + 32 * k) (v.start.0 + 32 * k + 32) ≡ map_answer id_of (id_at k s)
  unfolding id_at
  id-got h =
      let t = ids-there k s v.start.0 (omega (arith, id-fits)) in
      rw (item-after (λ before. part 32) k s q f h t.1, part-got 32 s (v.start.0 + 32 * k) (omega (arith, id-fits)), map-value)
