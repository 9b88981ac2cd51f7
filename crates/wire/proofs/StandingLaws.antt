-- Laws of `put` where bytes stand in the output already, and the output after a writer that accepted or refused.
use Rattle.std.specs.Prelude.{ℕ, ◌+◌, ◌-◌, ◌≤◌, List, [], ◌++◌, ◌≡◌, refl, length, take, drop}
use Rattle.std.proofs.Common.{arith, sym, ap, ◌∙◌, length-append, length-drop, take-append-drop, take-take, take-add, drop-drop, length-take-le}
use Rattle.wire.specs.Output.{Written, To, Refused, put, output_after, Wrote}
use Rattle.wire.proofs.OutputLaws.{length-put, put-put, put-eq, put-before, put-here, put-after}
use Rattle.wire.proofs.ReaderLaws.{length_part}

-- storing what stands there changes nothing
pub put_again : (o : List ℕ) (m n : ℕ) → m + n ≤ length o → put o m (take n (drop m o)) ≡ o
put_again o m n h =
    let l : length (take n (drop m o)) ≡ n = length_part n o m h in
    put-eq o m (take n (drop m o)) (omega arith)
    ∙ ap (λ (k : ℕ). take m o ++ take n (drop m o) ++ drop (m + k) o) l
    ∙ ap (λ (x : List ℕ). x ++ drop (m + n) o) (sym (take-add m n o))
    ∙ take-append-drop (m + n) o

-- bytes a, and after them n bytes that stand there already
pub put_standing : (out : List ℕ) (at : ℕ) (a : List ℕ) (m n : ℕ) → m ≡ at + length a → m + n ≤ length out → put out at (a ++ take n (drop m out)) ≡ put out at a
put_standing out at a m n p h =
    let mid : List ℕ = put out at a in
    let kept : drop m mid ≡ drop m out = ap (λ (k : ℕ). drop k mid) p ∙ put-after out at a (omega arith) ∙ ap (λ (k : ℕ). drop k out) (sym p) in
    sym (put-put a out at (take n (drop m out)))
    ∙ ap (λ (k : ℕ). put mid k (take n (drop m out))) (sym p)
    ∙ ap (λ (l : List ℕ). put mid m (take n l)) (sym kept)
    ∙ put_again mid m n (omega (arith, length-put out at a))

-- a write over all that an earlier one wrote
pub put-over : (out : List ℕ) (at : ℕ) (w b : List ℕ) (m : ℕ) → at ≤ m → m + length b ≤ at + length w → at + length w ≤ length out
    → put (put out m b) at w ≡ put out at w
put-over out at w b m p q h =
    let mid : List ℕ = put out m b in
    let e : ℕ = at + length w in
    let k : ℕ = e - (m + length b) in
    let l : length mid ≡ length out = length-put out m b in
    let r : m + length b ≤ length out = omega arith in
    let n : m + length b + k ≡ e = omega arith in
    let before : take at mid ≡ take at out =
    sym (take-take at m mid p) ∙ ap (take at) (put-before out m b r) ∙ take-take at m out p in
    let after : drop e mid ≡ drop e out =
    ap (λ (i : ℕ). drop i mid) (sym n) ∙ sym (drop-drop k (m + length b) mid) ∙ ap (drop k) (put-after out m b r)
    ∙ drop-drop k (m + length b) out ∙ ap (λ (i : ℕ). drop i out) n in
    put-eq mid at w (omega arith)
    ∙ ap (λ (x : List ℕ). x ++ w ++ drop e mid) before
    ∙ ap (λ (x : List ℕ). take at out ++ w ++ x) after
    ∙ sym (put-eq out at w h)

-- bytes b, and then a before them
pub put-behind : (out : List ℕ) (at : ℕ) (a b : List ℕ) (m : ℕ) → m ≡ at + length a → m + length b ≤ length out → put (put out m b) at a ≡ put out at (a ++ b)
put-behind out at a b m p h =
    let mid : List ℕ = put out m b in
    sym (put_standing mid at a m (length b) p (omega (arith, length-put out m b)))
    ∙ ap (λ (x : List ℕ). put mid at (a ++ x)) (put-here out m b h)
    ∙ put-over out at (a ++ b) b m (omega arith) (omega (arith, length-append a b)) (omega (arith, length-append a b))

-- the first i bytes of w, and then all from the j-th on, some of them once more
pub wrote_over : {out : List ℕ} {at : ℕ} {w : List ℕ} {m : ℕ} {mid : List ℕ} {e : ℕ} {last : List ℕ} (i j : ℕ) → j ≤ i → i ≤ length w → at + length w ≤ length out
    → Wrote out at (take i w) m mid → Wrote mid (at + j) (drop j w) e last → Wrote out at w e last
wrote_over {out} {at} {w} {m} {mid} {e} {last} i j p q h v u =
    let a : List ℕ = take j w in
    let b : List ℕ = drop j w in
    let x : List ℕ = take (i - j) b in
    let la : length a ≡ j = length-take-le j w (omega arith) in
    let lb : length b ≡ length w - j = length-drop j w in
    let lx : length x ≡ i - j = length-take-le (i - j) b (omega arith) in
    let n : j + (i - j) ≡ i = omega arith in
    let one : List ℕ = put out at a in
    let g : at + length a ≡ at + j = omega arith in
    let split : take i w ≡ a ++ x = ap (λ (k : ℕ). take k w) (sym n) ∙ take-add j (i - j) w in
    let first : mid ≡ put one (at + j) x =
    v.bytes ∙ ap (put out at) split ∙ sym (put-put a out at x) ∙ ap (λ (k : ℕ). put one k x) g in
    record {
      end = omega (arith, u.end);
      bytes =
          u.bytes ∙ ap (λ (o : List ℕ). put o (at + j) b) first
          ∙ put-over one (at + j) b x (at + j) (omega arith) (omega arith) (omega (arith, length-put out at a))
          ∙ ap (λ (k : ℕ). put one k b) (sym g) ∙ put-put a out at b ∙ ap (put out at) (take-append-drop j w);
    }

-- ---- the output after a writer that accepted, and after one that refused

pub after_none : (r : Written) (out : List ℕ) (at : ℕ) → output_after r out at [] ≡ put out at []
unfolding output_after put
after_none (To e) out at = refl
after_none (Refused m) out at = refl

pub after-put : {r : Written} {e : ℕ} {last : List ℕ} (out : List ℕ) (at : ℕ) (bs : List ℕ) → r ≡ To e → last ≡ put out at bs → last ≡ output_after r out at bs
unfolding output_after
after-put out at bs p q = rw p q

pub after-to : {r : Written} {e f : ℕ} {out bs last : List ℕ} {at : ℕ} → r ≡ To e → Wrote out at bs f last → last ≡ output_after r out at bs
after-to p w = after-put _ _ _ p w.bytes

pub after-refused : {r : Written} {m : ℕ} {out : List ℕ} (at : ℕ) (bs : List ℕ) → r ≡ Refused m → out ≡ output_after r out at bs
unfolding output_after
after-refused at bs p = rw p
