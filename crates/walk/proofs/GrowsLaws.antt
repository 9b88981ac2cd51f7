-- A line that grows, for any two readers that keep `ReaderLaws`. The readings of all the bytes and of the first k are
-- followed from one place, step by step, until that of the first k comes to its end, whence the reading of all goes on.
use Rattle.std.specs.Prelude.{ℕ, ◌≤◌, List, [], ◌++◌, ◌≡◌, refl, T, length, take}
use Rattle.std.proofs.Common.{arith, ap, length-append, length-take-le}
use Rattle.std.proofs.Math.Seq.{take-append_seam}
use Rattle.walk.specs.Walk.{Layer, Opened, refused_in, Item, clean, stopped, Reading, is_cut, walk}
use Rattle.walk.proofs.WalkLaws.{OpenedCut, kept, own, short, open_at, ReaderLaws, opened-kept, Walks, over, stops, goes, walks, item_then, walk-over, walk-stops, walk-goes}

-- items, and then a reading
abbrev pub items_then : {F : Type 0} → List (Item F) → Reading F → Reading F
items_then is r = record { items = is ++ r.items; ending = r.ending }

module _ {F : Type 0} {handshake_at : List ℕ → Opened F} {message_at : List ℕ → ℕ → Opened F} {least : ℕ}
    (laws : ReaderLaws F handshake_at message_at least) where
  abbrev Open : List ℕ → ℕ → Opened F
  Open s at = open_at F handshake_at message_at s at

  abbrev Walk : List ℕ → ℕ → Reading F
  Walk s at = walk F handshake_at message_at s at

  -- full is the reading of s from a place on, part that of its first k bytes
  pub record GrownFrom (s : List ℕ) (k : ℕ) (full part : Reading F) : Type 0 where
    pub stopping : (layer : Layer) (n p : ℕ) → part.ending ≡ stopped layer n p → (p ≤ k) × (full ≡ items_then part.items (Walk s p))
    pub ended : part.ending ≡ clean → full ≡ items_then part.items (Walk s k)
    pub stays : (layer : Layer) (n p : ℕ) → part.ending ≡ stopped layer n p → ¬ (T (is_cut layer n)) → full ≡ part

  -- a refusal that counts as no cut is that of all the bytes
  refusal-stays : {k : ℕ} {o p : Opened F} → OpenedCut k o p → (layer : Layer) (n : ℕ) → p ≡ refused_in layer n → ¬ (T (is_cut layer n)) → o ≡ refused_in layer n
  refusal-stays (kept h) layer n q x = let z : ◌≡◌ {A = ℕ} 0 1 = cc in absurd (omega arith)
  refusal-stays own layer n q x = q
  refusal-stays (short {layer = layer'} {n = n'} b t) layer n q x = let y : is_cut layer' n' ≡ is_cut layer n = cc in absurd (x (rw y at t))

  grown-over : (s : List ℕ) (k at : ℕ) → at ≡ k → GrownFrom s k (Walk s at) (record { items = []; ending = clean })
  grown-over s k at e =
      record {
        stopping = λ layer n p q. let z : ◌≡◌ {A = ℕ} 0 1 = cc in absurd (omega arith);
        ended = λ q. rw e refl;
        stays = λ layer n p q x. let z : ◌≡◌ {A = ℕ} 0 1 = cc in absurd (omega arith);
      }

  grown-stop : (s : List ℕ) (k at : ℕ) (layer : Layer) (n : ℕ) → at ≤ k
      → (¬ (T (is_cut layer n)) → Walk s at ≡ record { items = []; ending = stopped layer n at })
      → GrownFrom s k (Walk s at) (record { items = []; ending = stopped layer n at })
  grown-stop s k at layer n h same =
      record {
        stopping = λ layer' n' p q. let y : at ≡ p = cc in (omega arith, rw y refl);
        ended = λ q. let z : ◌≡◌ {A = ℕ} 0 1 = cc in absurd (omega arith);
        stays = λ layer' n' p q x. let y : is_cut layer n ≡ is_cut layer' n' = cc in same (λ t. x (rw y at t));
      }

  grown-item : (s : List ℕ) (k at : ℕ) (f : F) (end : ℕ) (full part : Reading F) → GrownFrom s k full part
      → GrownFrom s k (item_then at f end full) (item_then at f end part)
  grown-item s k at f end full part g =
      record {
        stopping = λ layer n p q. let r = g.stopping layer n p q in (r.0, ap (item_then at f end) r.1);
        ended = λ q. ap (item_then at f end) (g.ended q);
        stays = λ layer n p q x. ap (item_then at f end) (g.stays layer n p q x);
      }

  grown-from : (s : List ℕ) (k at : ℕ) → at ≤ k → k ≤ length s → Walks laws (take k s) at → GrownFrom s k (Walk s at) (Walk (take k s) at)
  grown-from s k at h g (over z e) =
      let n : length (take k s) ≡ k = length-take-le k s g in
      rw (walk-over laws (take k s) at z e) (grown-over s k at (omega arith))
  grown-from s k at h g (stops layer n b q) =
      let r : length (take k s) ≡ k = length-take-le k s g in
      rw (walk-stops laws (take k s) at layer n b q)
      (grown-stop s k at layer n h (λ x.
      walk-stops laws s at layer n (λ z. let y = b z in omega arith) (refusal-stays (laws.cut s at k h g) layer n q x)))
  grown-from s k at h g (goes f end b q m l w) =
      let r : length (take k s) ≡ k = length-take-le k s g in
      let c = opened-kept (laws.cut s at k h g) f end q in
      let part = walk-goes laws (take k s) at f end (omega arith) b q in
      let full = walk-goes laws s at f end (omega arith) (λ z. let y = b z in omega arith) c.0 in
      rw (part, full) (grown-item s k at f end (Walk s end) (Walk (take k s) end) (grown-from s k end (omega arith) g w))

  -- of s, and then t
  pub grown : (s t : List ℕ) → GrownFrom (s ++ t) (length s) (Walk (s ++ t) 0) (Walk s 0)
  grown s t =
      rw (take-append_seam s t) at
      (grown-from (s ++ t) (length s) 0 (omega arith) (omega (arith, length-append s t)) (walks laws (take (length s) (s ++ t)) 0 (omega arith)))
