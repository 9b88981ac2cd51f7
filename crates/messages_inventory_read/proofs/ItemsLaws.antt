-- What is given of a body, from what its parts answered: of a type byte, a count and items, and of one of the items
-- once the body is read.
use Rattle.std.specs.Prelude.{ℕ, ◌≤◌, ◌<◌, List, ◌≡◌, length}
use Rattle.std.proofs.Common.{arith}
use Rattle.std.proofs.Math.Path.{ap}
use borrow.Author.Tests.{lt-ltb}
use Rattle.wire.specs.Reader.{got, refused, Reader, list_of, map_answer}
use Rattle.wire.proofs.ReaderLaws.{map-value, map-refusal}
use Rattle.wire.proofs.ListOfLaws.{listed}
use Rattle.messages.specs.Message.{InventoryHeader, inventory_header}
use Rattle.messages_inventory_read.specs.Parts.{end_of, Items, items, items_start, item_by_index, item_at}
use Rattle.messages_inventory_read.proofs.PartsLaws.{item-outside}
use Rattle.messages_inventory_read.specs.Answers.{inventory_in}
use Rattle.messages_inventory_read.specs.declared.Inventory.{Inventory}

module _ {A : Type 0} (p : List A → Reader A) (s : List ℕ) {h : InventoryHeader} {at : ℕ} (q : inventory_header s 0 ≡ got h at) where
  items_start_lem : items_start s ≡ at
  unfolding items_start
  items_start_lem = ap end_of q

  pub items-got : {l : List A} {e : ℕ} → list_of h.count p s at ≡ got l e
      → got (record { modifier_type = h.type; count = h.count; start = record { 0 = at } }) e ≡ map_answer (inventory_in s) (items p s 0)
  unfolding items
  items-got {l} {e} r = rw (q, r, map-value, items_start_lem, (listed p s h.count at r).0)

  pub items_refused : {m : ℕ} → list_of h.count p s at ≡ refused m → refused m ≡ map_answer (inventory_in s) (items p s 0)
  unfolding items
  items_refused r = rw (q, r, map-refusal)

-- one of the items, once the body is read
module _ {A : Type 0} (p : List A → Reader A) (k : ℕ) (s : List ℕ) where
  pub item_refused : {m : ℕ} → items p s 0 ≡ refused m → item_at k p s ≡ refused m
  unfolding item_at
  item_refused q = rw q

  module _ {i : Items A} {e : ℕ} (q : items p s 0 ≡ got i e) {v : Inventory} (f : inventory_in s i ≡ v) where
    pub number : length i.list ≡ v.count
    number = ap (λ (v : Inventory). v.count) f

    pub first : items_start s ≡ v.start.0
    first = ap (λ (v : Inventory). v.start.0) f

    pub item_past : v.count ≤ k → item_at k p s ≡ refused 12
    unfolding item_at
    item_past h = rw q (item-outside p s (length i.list) k (items_start s) (omega (arith, number)))

    pub item-after : {l : List A} {at : ℕ} → k < v.count → list_of k p s v.start.0 ≡ got l at → item_at k p s ≡ p l s at
    unfolding item_at item_by_index
    item-after h r = rw (q, number, lt-ltb k v.count h, first, r)

    pub item-not-after : {m : ℕ} → k < v.count → list_of k p s v.start.0 ≡ refused m → item_at k p s ≡ refused m
    unfolding item_at item_by_index
    item-not-after h r = rw (q, number, lt-ltb k v.count h, first, r)
