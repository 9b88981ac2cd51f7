-- Laws of `Parts`: bodies are these parts; n ids are read where 32 * n bytes are there; and the item by index is the
-- one at that place of the list.
use Rattle.std.specs.Prelude.{ℕ, zero, suc, ◌+◌, ◌*◌, ◌≤◌, ◌<◌, Bool, true, false, cond, List, [], ◌∷◌, ◌++◌, ◌⊎◌, ◌≡◌, refl, leb, length, take, drop}
use Rattle.std.proofs.Common.{zero-add, arith, inl, inr, ap, sym, ◌∙◌, length-append, leb-true, lt-ltb, le-ltb}
use Rattle.wire.specs.Numbers.{lt-or_ge}
use Rattle.wire.specs.Reader.{Answer, got, refused, Reader, bind, pure, and_then, byte, Segment, part, fold, list_of, map_answer}
use Rattle.wire.proofs.AnswerLaws.{no_answer, value_of, end_of_lem, bind-got, bind-step}
use Rattle.wire.proofs.ReaderLaws.{part-got, part_missing}
use Rattle.wire.proofs.ListOfLaws.{turn, listed, Indexed, indexed}
use Rattle.wire.specs.Stable.{Stable}
use Rattle.wire.proofs.StableLaws.{stable_ends, stable_then, stable_pure, stable_guard, stable_byte}
use Rattle.vlq.specs.Vlq.{vlq_length}
use Rattle.vlq.proofs.VlqLaws.{stable_vlq_length}
use Rattle.messages.specs.Message.{Message, max_inv_objects, count, InventoryHeader, inventory_header, ids}
use Rattle.messages_inventory_read.specs.Parts.{end_of, Items, items, items_start, item_by_index, item_at}

-- ---- counts

pub count-got : (cap : ℕ) (s : List ℕ) (at : ℕ) {n e : ℕ} → count cap s at ≡ got n e → (vlq_length s at ≡ got n e) × (n ≤ cap)
unfolding count
count-got cap s at {n} {e} q = go (vlq_length s at) refl q
  where
    go : (r : Answer ℕ) → vlq_length s at ≡ r → bind r (λ k m. cond (leb k cap) (got k m) (refused 10)) ≡ got n e → (vlq_length s at ≡ got n e) × (n ≤ cap)
    go (got k m) h q = test (leb k cap) refl q
      where
        test : (b : Bool) → leb k cap ≡ b → cond b (got k m) (refused 10) ≡ got n e → (vlq_length s at ≡ got n e) × (n ≤ cap)
        test true t q = (h ∙ q, leb-true n cap (rw (← value_of q) t))
        test false t q = no_answer q
    go (refused m) h q = no_answer q

abbrev opened : ℕ → ℕ → InventoryHeader
opened type n = record { type = type; count = n }

-- the numbers that count as a cut play no part
none : ℕ → Bool
none m = true

stable_header : Stable none inventory_header
unfolding inventory_header count none
stable_header =
    stable_then (stable_byte tt) (λ type.
    stable_then (stable_then (stable_vlq_length tt) (λ n. stable_guard (leb n max_inv_objects) 10 n)) (λ n.
    stable_pure (opened type n)))

-- a header ends in the body, and its count is at most 400
pub header-ends : (s : List ℕ) {h : InventoryHeader} {at : ℕ} → inventory_header s 0 ≡ got h at → at ≤ length s
header-ends s {h} {at} q = stable_ends stable_header s 0 h at (omega arith) q

pub header_counts : (s : List ℕ) {h : InventoryHeader} {at : ℕ} → inventory_header s 0 ≡ got h at → h.count ≤ max_inv_objects
unfolding inventory_header
header_counts s q =
    let a = bind-got (byte s 0) (λ t m. bind (count max_inv_objects s m) (λ n e. got (opened t n) e)) q in
    let b = bind-got (count max_inv_objects s a.next) (λ n e. got (opened a.value n) e) a.rest in
    rw (← ap (λ (h : InventoryHeader). h.count) (value_of b.rest)) (count-got max_inv_objects s a.next b.answer).1

-- ---- ids

record AllThere (n : ℕ) (before : List Segment) (s : List ℕ) (at : ℕ) : Type 0 where
  list : List Segment
  answer : fold n (turn (λ before. part 32)) before s at ≡ got list (at + 32 * n)
  counted : length list ≡ length before + n

segment : List ℕ → ℕ → Segment
segment s at = record { start = at; bytes = take 32 (drop at s) }

all_there : (n : ℕ) (before : List Segment) (s : List ℕ) (at : ℕ) → at + 32 * n ≤ length s → AllThere n before s at
unfolding fold segment
all_there zero before s at h = record { list = before; answer = ap (got before) (omega arith); counted = omega arith }
all_there (suc n) before s at h =
    let t = all_there n (before ++ (segment s at ∷ [])) s (at + 32) (omega arith) in
    let e : at + 32 + 32 * n ≡ at + 32 * suc n = omega arith in
    record {
      list = t.list;
      answer = rw (part-got 32 s at (omega arith)) (t.answer ∙ ap (got t.list) e);
      counted = omega (arith, t.counted, length-append before (segment s at ∷ []));
    }

-- n ids are 32 * n bytes
pub ids-there : (n : ℕ) (s : List ℕ) (at : ℕ) → at + 32 * n ≤ length s
    → (l : List Segment) × (list_of n (λ before. part 32) s at ≡ got l (at + 32 * n)) × (length l ≡ n)
unfolding list_of
ids-there n s at h = let t = all_there n [] s at h in (t.list, t.answer, t.counted ∙ zero-add n)

some_missing : (n : ℕ) (before : List Segment) (s : List ℕ) (at : ℕ) → at ≤ length s → length s < at + 32 * n
    → fold n (turn (λ before. part 32)) before s at ≡ refused 1
unfolding fold segment
some_missing zero before s at h g = absurd (omega arith)
some_missing (suc n) before s at h g =
    side (lt-or_ge (length s) (at + 32)) (λ u. some_missing n (before ++ (segment s at ∷ [])) s (at + 32) u (omega arith))
  where
    side : (length s < at + 32) ⊎ (at + 32 ≤ length s)
        → (at + 32 ≤ length s → fold n (turn (λ before. part 32)) (before ++ (segment s at ∷ [])) s (at + 32) ≡ refused 1)
        → bind (bind (part 32 s at) (λ g m. got (before ++ (g ∷ [])) m)) (λ b m. fold n (turn (λ before. part 32)) b s m) ≡ refused 1
    side (inl u) k = rw (part_missing 32 s at h u)
    side (inr u) k = rw (part-got 32 s at u) (k u)

pub ids_missing : (n : ℕ) (s : List ℕ) (at : ℕ) → at ≤ length s → length s < at + 32 * n → list_of n (λ before. part 32) s at ≡ refused 1
unfolding list_of
ids_missing n s at h g = some_missing n [] s at h g

-- ---- one of n items

module _ {A : Type 0} (p : List A → Reader A) (s : List ℕ) where
  -- of n items that are read, the one with an index inside is the one at that place of the list; outside 12
  pub item-inside : (n k at : ℕ) {l : List A} {e : ℕ} → list_of n p s at ≡ got l e → k < n
      → (i : Indexed p s at k l) × (item_by_index n k p s at ≡ got i.value i.next)
  unfolding item_by_index
  item-inside n k at q h = let c = listed p s n at q in let i = indexed p s k c.1 (omega (arith, c.0)) in (i, rw (lt-ltb k n h, i.skipped) i.read)

  pub item-outside : (n k at : ℕ) → n ≤ k → item_by_index n k p s at ≡ refused 12
  unfolding item_by_index
  item-outside n k at h = rw (le-ltb k n h)

-- ---- bodies

abbrev itemised : {A : Type 0} → ℕ → List A → Items A
itemised type l = record { type = type; list = l }

-- a header and items, made a message
module _ {A : Type 0} (p : List A → Reader A) (make : ℕ → List A → Message) (s : List ℕ) where
  pub items-made : (at : ℕ) → and_then inventory_header (λ h. and_then (list_of h.count p) (λ l. pure (make h.type l))) s at ≡ map_answer (λ i. make i.type i.list) (items p s at)
  unfolding items map_answer
  items-made at =
      bind-step (inventory_header s at)
      (λ h m. bind (list_of h.count p s m) (λ l e. got (make h.type l) e))
      (λ h m. bind (list_of h.count p s m) (λ l e. got (itemised h.type l) e))
      (λ i e. got (make i.type i.list) e)
      (λ h m.
      bind-step (list_of h.count p s m)
      (λ l e. got (make h.type l) e)
      (λ l e. got (itemised h.type l) e)
      (λ i e. got (make i.type i.list) e)
      (λ l e. refl))

pub ids-items : (make : ℕ → List Segment → Message) (s : List ℕ) (at : ℕ)
    → ids make s at ≡ map_answer (λ i. make i.type i.list) (items (λ before. part 32) s at)
unfolding ids
ids-items make s at = items-made (λ before. part 32) make s at

-- ---- bodies that are read

pub record ItemsRead {A : Type 0} (p : List A → Reader A) (s : List ℕ) (i : Items A) (e : ℕ) : Type 0 where
  pub opening : InventoryHeader
  pub opened : inventory_header s 0 ≡ got opening (items_start s)
  pub taken : list_of opening.count p s (items_start s) ≡ got i.list e

taken_as : {A : Type 0} (p : List A → Reader A) (s : List ℕ) (n : ℕ) {at at' m e : ℕ} {l l' : List A} → at ≡ at' → l ≡ l' → m ≡ e
    → list_of n p s at ≡ got l m → list_of n p s at' ≡ got l' e
taken_as p s n a b c q = rw (← a, ← b, ← c) q

pub items-read : {A : Type 0} (p : List A → Reader A) (s : List ℕ) {i : Items A} {e : ℕ} → items p s 0 ≡ got i e → ItemsRead p s i e
unfolding items items_start
items-read {A} p s {i} {e} q =
    let a = bind-got (inventory_header s 0) (λ h m. bind (list_of h.count p s m) (λ l m. got (itemised h.type l) m)) q in
    let b = bind-got (list_of a.value.count p s a.next) (λ l m. got (itemised a.value.type l) m) a.rest in
    let start : a.next ≡ end_of (inventory_header s 0) = sym (ap end_of a.answer) in
    let list : b.value ≡ i.list = ap (λ (i : Items A). i.list) (value_of b.rest) in
    let end : b.next ≡ e = end_of_lem b.rest in
    record {
      opening = a.value;
      opened = a.answer ∙ ap (got a.value) start;
      taken = taken_as p s a.value.count start list end b.answer;
    }

-- ---- by index: the item at that place of the list that the body is read to

module _ {A : Type 0} (p : List A → Reader A) (k : ℕ) (s : List ℕ) where
  pub item_of-list : (n at : ℕ) {l : List A} {e : ℕ} → list_of n p s at ≡ got l e → k < length l
      → (x : Indexed p s at k l) × (item_by_index (length l) k p s at ≡ got x.value x.next)
  item_of-list n at {l} q h =
      let c = (listed p s n at q).0 in
      let t = item-inside p s n k at q (omega (arith, c)) in
      (t.0, ap (λ (n : ℕ). item_by_index n k p s at) c ∙ t.1)

  pub item_at_lem : {i : Items A} {e : ℕ} → items p s 0 ≡ got i e → k < length i.list
      → (x : Indexed p s (items_start s) k i.list) × (item_at k p s ≡ got x.value x.next)
  unfolding item_at
  item_at_lem q h =
      let r = items-read p s q in
      let t = item_of-list r.opening.count (items_start s) r.taken h in
      (t.0, rw q t.1)
