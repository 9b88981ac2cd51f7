-- Reading back, proved for each reader of `Reader` and for their composition; and that what was put into an output stands there.
use Rattle.std.specs.Prelude.{ℕ, suc, ◌+◌, ◌≤◌, ◌<◌, Bool, true, List, [], ◌∷◌, ◌++◌, ◌≡◌, refl, length, get_or, take, drop}
use Rattle.std.proofs.Common.{add-zero, arith, append-nil, ap, sym, ◌∙◌, length-append, drop-cons, drop-drop, take-add, take-take}
use Rattle.std.proofs.Math.Seq.{take-append_seam, drop-append_seam, take-length}
use Rattle.wire.specs.Reader.{got, Reader, pure, and_then, place, guard, byte, Segment, part}
use Rattle.wire.proofs.ReaderLaws.{byte-got, part-got}
use Rattle.wire.specs.ReadsBack.{StandsAt, ReadsBack}
use Rattle.wire.specs.Output.{put}
use Rattle.wire.proofs.OutputLaws.{length-put, put-here}

module _ {s : List ℕ} {at : ℕ} (a b : List ℕ) (h : StandsAt s at (a ++ b)) where
  size : at + (length a + length b) ≤ length s
  size = let e = length-append a b in omega (arith, h.within)

  both : take (length a + length b) (drop at s) ≡ a ++ b
  both = ap (λ (n : ℕ). take n (drop at s)) (sym (length-append a b)) ∙ h.bytes

  left : take (length a) (drop at s) ≡ a
  left = sym (take-take (length a) (length a + length b) (drop at s) (omega arith)) ∙ ap (take (length a)) both ∙ take-append_seam a b

  pub stands-left : StandsAt s at a
  stands-left = record { within = omega (arith, size); bytes = left }

  pub stands_right : StandsAt s (at + length a) b
  stands_right = record {
    within = omega (arith, size);
    bytes =
        let e : take (length a) (drop at s) ++ take (length b) (drop (length a) (drop at s)) ≡ a ++ b = sym (take-add (length a) (length b) (drop at s)) ∙ both in
        let f : a ++ take (length b) (drop (length a) (drop at s)) ≡ a ++ b = ap (λ (l : List ℕ). l ++ take (length b) (drop (length a) (drop at s))) (sym left) ∙ e in
        ap (take (length b)) (sym (drop-drop (length a) at s))
        ∙ sym (drop-append_seam a (take (length b) (drop (length a) (drop at s)))) ∙ ap (drop (length a)) f ∙ drop-append_seam a b;
  }

-- all the bytes stand in themselves
pub stands-whole : (s : List ℕ) → StandsAt s 0 s
stands-whole s = record { within = omega arith; bytes = take-length s }

-- what was put into an output with room stands there
pub stands-put : (out : List ℕ) (at : ℕ) (bs : List ℕ) → at + length bs ≤ length out → StandsAt (put out at bs) at bs
stands-put out at bs h = record { within = omega (arith, length-put out at bs); bytes = put-here out at bs h }

-- ---- readers that take no bytes

module _ {A X : Type 0} {see : A → X} {v : X} where
  pub reads-pure : (a : A) → see a ≡ v → ReadsBack (pure a) see [] v
  reads-pure a e = record { reads = λ s at h. (a, ap (got a) (sym (add-zero at)), e) }

  pub reads-guard : (b : Bool) (m : ℕ) (a : A) → b ≡ true → see a ≡ v → ReadsBack (guard b m a) see [] v
  reads-guard b m a t e = record { reads = λ s at h. (a, rw t (ap (got a) (sym (add-zero at))), e) }

-- a place is no value
pub reads-place : ReadsBack place (λ p. tt) [] (tt {0})
reads-place = record { reads = λ s at h. (at, ap (got at) (sym (add-zero at)), refl) }

-- ---- composition

pub reads_then : {A B X Y : Type 0} {p : Reader A} {f : A → Reader B} {see : A → X} {see' : B → Y} {w w' : List ℕ} {v : X} {v' : Y}
    → ReadsBack p see w v → ((a : A) → see a ≡ v → ReadsBack (f a) see' w' v') → ReadsBack (and_then p f) see' (w ++ w') v'
reads_then {A} {B} {X} {Y} {p} {f} {see} {see'} {w} {w'} {v} {v'} hp hf = record { reads = λ s at h. go s at h (hp.reads s at (stands-left w w' h)) }
  where
    go : (s : List ℕ) (at : ℕ) → StandsAt s at (w ++ w') → (a : A) × (p s at ≡ got a (at + length w)) × (see a ≡ v)
        → (b : B) × (and_then p f s at ≡ got b (at + length (w ++ w'))) × (see' b ≡ v')
    go s at h (a, e, q) =
        let r = (hf a q).reads s (at + length w) (stands_right w w' h) in
        (r.0, rw e (r.1 ∙ ap (got r.0) (omega (arith, length-append w w'))), r.2)

-- the second takes no bytes
pub reads-last : {A B X Y : Type 0} {p : Reader A} {f : A → Reader B} {see : A → X} {see' : B → Y} {w : List ℕ} {v : X} {v' : Y}
    → ReadsBack p see w v → ((a : A) → see a ≡ v → ReadsBack (f a) see' [] v') → ReadsBack (and_then p f) see' w v'
reads-last {w = w} hp hf = rw append-nil at (reads_then {w' = []} hp hf)

-- ---- fields

pub reads_byte : (b : ℕ) → ReadsBack byte (λ x. x) (b ∷ []) b
reads_byte b = record {
  reads = λ s at h.
      let l : at < length s = omega (arith, h.within) in
      let e : get_or s at 0 ∷ take 0 (drop (suc at) s) ≡ b ∷ [] = ap (take 1) (sym (drop-cons s at 0 l)) ∙ h.bytes in
      (get_or s at 0, byte-got s at l, cc);
}

-- the value of a segment is its bytes
abbrev pub bytes_of : Segment → List ℕ
bytes_of g = g.bytes

pub reads-part : (w : List ℕ) → ReadsBack (part (length w)) bytes_of w w
reads-part w = record {
  reads = λ s at h.
      (record { start = at; bytes = take (length w) (drop at s) }, part-got (length w) s at h.within, h.bytes);
}

pub reads-part_of : (n : ℕ) (w : List ℕ) → length w ≡ n → ReadsBack (part n) bytes_of w w
reads-part_of n w e = rw (sym e) (reads-part w)
