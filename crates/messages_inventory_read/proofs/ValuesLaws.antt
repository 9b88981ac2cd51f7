-- What is given of a body of ids that was read says what the reading says; and items are read from the place that is
-- given as the first one's.
use Rattle.std.specs.Prelude.{ℕ, List, map, ◌≡◌, length}
use Rattle.wire.proofs.GivesLaws.{gives_part}
use Rattle.wire.proofs.ListOfLaws.{listed}
use Rattle.wire.specs.Reader.{got, Reader, Segment, part, list_of, map_answer}
use Rattle.handshake.proofs.ByIndexLaws.{by_index_lem, made_of_lem}
use Rattle.messages_inventory_read.specs.Answers.{inventory_in, id_of}
use Rattle.messages_inventory_read.specs.Parts.{Items, items, items_start, id_at}
use Rattle.messages_inventory_read.proofs.PartsLaws.{items-read, item_at_lem}
use Rattle.messages_inventory_read.specs.Values.{id_given, ids_given}

module _ (s : List ℕ) where
  id_given_lem : (at : ℕ) {g : Segment} {e : ℕ} → part 32 s at ≡ got g e → id_given s (id_of g) ≡ g.bytes
  id_given_lem at {g} {e} q = let p = (gives_part 32).holds g e q in rw (← p.size) p.placed.bytes

  pub ids_given_lem : {i : Items Segment} {e : ℕ} → items (λ before. part 32) s 0 ≡ got i e → ids_given s (length i.list) ≡ map (λ (g : Segment). g.bytes) i.list
  unfolding ids_given id_at
  ids_given_lem {i} q =
      by_index_lem (id_given s) (λ k. map_answer id_of (id_at k s)) (λ g. g.bytes) (λ before. part 32) s (items_start s) i.list
      (λ k h. let x = item_at_lem (λ before. part 32) k s q h in (x.0, made_of_lem (id_given s) id_of x.1 (id_given_lem x.0.from x.0.read)))

-- as many items as are counted, read from the given place on, are the body's
pub items-from : {A : Type 0} (p : List A → Reader A) (s : List ℕ) {i : Items A} {e : ℕ} → items p s 0 ≡ got i e
    → list_of (inventory_in s i).count p s (inventory_in s i).start.0 ≡ got i.list e
items-from p s q =
    let r = items-read p s q in
    rw (listed p s r.opening.count (items_start s) r.taken).0 r.taken
