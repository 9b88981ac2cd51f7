-- n bytes of a slice from a place on, copied into an array one by one; and a part stored by `copy_from_slice`.
use Rattle.std.specs.Prelude.{ℕ, ◌+◌, ◌≤◌, ◌<◌, List, [], ◌∷◌, ◌++◌, ◌≡◌, refl, length, get_or, take, drop, set}
use Rattle.std.proofs.Common.{arith, add-one, sym, ap, ◌∙◌, append_assoc, length-set, length-drop, drop-drop, take-suc, take-suc-set, take_all, get_or-drop}
use borrow.Rule.Slice.PartMut.{put_mid}
use Rattle.wire.specs.Output.{Wrote}
use Rattle.wire.proofs.OutputLaws.{put-eq}

-- the first i bytes of the array b are copied
pub record Copied (n : ℕ) (s : List ℕ) (at : ℕ) (b : List ℕ) (i : ℕ) : Type 0 where
  pub most : i ≤ n
  pub size : length b ≡ n
  pub same : take i b ≡ take i (drop at s)

pub copied_start : (n : ℕ) (s : List ℕ) (at : ℕ) (b : List ℕ) → length b ≡ n → Copied n s at b 0
copied_start n s at b l = record { most = omega arith; size = l; same = refl }

pub copied_next : {n : ℕ} (s : List ℕ) (at : ℕ) (b : List ℕ) (i : ℕ) → Copied n s at b i → i < n → at + n ≤ length s
    → Copied n s at (set b i (get_or s (at + i) 0)) (i + 1)
copied_next {n} s at b i c h g =
    let x : ℕ = get_or s (at + i) 0 in
    let d : i < length (drop at s) = simp length-drop (omega arith) in
    record {
      most = omega arith;
      size = length-set b i x ∙ c.size;
      same =
          rw add-one
          (take-suc-set b i x (omega (arith, c.size)) ∙ ap (λ (p : List ℕ). p ++ (x ∷ [])) c.same
          ∙ ap (λ (y : ℕ). take i (drop at s) ++ (y ∷ [])) (sym (get_or-drop at s i 0))
          ∙ sym (take-suc (drop at s) i 0 d));
    }

pub copied_end : {n : ℕ} (s : List ℕ) (at : ℕ) (b : List ℕ) (i : ℕ) → Copied n s at b i → n ≤ i → b ≡ take n (drop at s)
copied_end {n} s at b i c h =
    let e : i ≡ n = omega (arith, c.most) in
    sym (take_all n b (omega (arith, c.size))) ∙ rw e at c.same

-- ---- what `copy_from_slice` leaves

-- at k bytes from the place on it is a write of these bytes
pub wrote_copied : (out : List ℕ) (at k : ℕ) (bs here : List ℕ) → here ≡ bs → k ≡ length bs → at + length bs ≤ length out
    → Wrote out at bs (at + length bs) (put_mid at k out here)
wrote_copied out at k bs here p q room =
    record {
      end = refl;
      bytes =
          rw (p, q)
          (ap (λ (l : List ℕ). take at out ++ (bs ++ l)) (drop-drop (length bs) at out)
          ∙ sym (put-eq out at bs room ∙ append_assoc (take at out) bs (drop (at + length bs) out)));
    }
