-- Laws of `put`: one write after another is one write; where there is room, the bytes stand in the output and every other byte is as it was.
-- Then those of `written` and `output_after`: when a writer accepts, and what its caller knows then.
use Rattle.std.specs.Prelude.{ℕ, suc, ◌+◌, ◌≤◌, ◌<◌, Bool, true, false, cond, List, [], ◌∷◌, ◌++◌, ◌≡◌, refl, leb, take, drop, set}
use Rattle.std.proofs.Common.{add-zero, add-one, arith, append_assoc, sym, ◌∙◌, le-leb, leb-true, length-set, length-append, take_at, drop_at, length-take-le}
use Rattle.std.proofs.Math.Path.{ap}
use Rattle.std.proofs.lemmas.Bool.{lt-leb}
use Rattle.std.proofs.Math.ListN.{length}
use Rattle.std.proofs.lemmas.List.Edits.{sets, sets-eq}
use Rattle.std.proofs.Math.Seq.{take-append_seam}
use Rattle.wire.specs.Output.{Written, To, Refused, put, Question, ask, asked, written, output_after, Wrote}

pub length-put : (out : List ℕ) (at : ℕ) (bs : List ℕ) → length (put out at bs) ≡ length out
unfolding put
length-put out at [] = refl
length-put out at (b ∷ bs) = length-put (set out at b) (at + 1) bs ∙ length-set out at b

-- a second write from where the first ended
pub put-put : (a : List ℕ) (out : List ℕ) (at : ℕ) (b : List ℕ) → put (put out at a) (at + length a) b ≡ put out at (a ++ b)
unfolding put
put-put [] out at b = rw add-zero
put-put (x ∷ a) out at b =
    let e : at + suc (length a) ≡ at + 1 + length a = omega arith in
    rw e (put-put a (set out at x) (at + 1) b)

put_sets : (bs out : List ℕ) (at : ℕ) → put out at bs ≡ sets out at bs
unfolding put
put_sets [] out at = refl
put_sets (b ∷ bs) out at = rw add-one (put_sets bs (set out at b) (suc at))

-- where there is room: what stood before, the bytes, what stood after
module _ (out : List ℕ) (at : ℕ) (bs : List ℕ) (room : at + length bs ≤ length out) where
  pub put-eq : put out at bs ≡ take at out ++ bs ++ drop (at + length bs) out
  put-eq = put_sets bs out at ∙ sets-eq bs out at room

  before-length : length (take at out) ≡ at
  before-length = length-take-le at out (omega arith)

  put_eq' : put out at bs ≡ take at out ++ (bs ++ drop (at + length bs) out)
  put_eq' = put-eq ∙ append_assoc (take at out) bs (drop (at + length bs) out)

  pub put-before : take at (put out at bs) ≡ take at out
  put-before = ap (take at) put_eq' ∙ take_at (take at out) _ at before-length

  pub put-here : take (length bs) (drop at (put out at bs)) ≡ bs
  put-here =
      ap (λ (l : List ℕ). take (length bs) (drop at l)) put_eq'
      ∙ ap (take (length bs)) (drop_at (take at out) _ at before-length)
      ∙ take-append_seam bs (drop (at + length bs) out)

  pub put-after : drop (at + length bs) (put out at bs) ≡ drop (at + length bs) out
  put-after =
      ap (drop (at + length bs)) put-eq
      ∙ drop_at (take at out ++ bs) (drop (at + length bs) out) (at + length bs) (length-append (take at out) bs ∙ ap (λ (n : ℕ). n + length bs) before-length)

-- ---- one write after another, in code

pub wrote_then : {out : List ℕ} {at : ℕ} {a : List ℕ} {m : ℕ} {mid : List ℕ} {b : List ℕ} {e : ℕ} {last : List ℕ}
    → Wrote out at a m mid → Wrote mid m b e last → Wrote out at (a ++ b) e last
wrote_then {out} {at} {a} {m} {mid} {b} {e} {last} v w =
    record {
      end = omega (arith, v.end, w.end, length-append a b);
      bytes = w.bytes ∙ ap (λ (o : List ℕ). put o m b) v.bytes ∙ ap (λ (k : ℕ). put (put out at a) k b) v.end ∙ put-put a out at b;
    }

pub wrote_byte : (out : List ℕ) (at b : ℕ) → Wrote out at (b ∷ []) (at + 1) (set out at b)
unfolding put
wrote_byte out at b = record { end = refl; bytes = refl }

-- bytes beside each other
pub wrote_two : (out : List ℕ) (at a b : ℕ) → Wrote out at (a ∷ b ∷ []) (at + 2) (set (set out at a) (at + 1) b)
unfolding put
wrote_two out at a b = record { end = refl; bytes = refl }

pub wrote_three : (out : List ℕ) (at a b c : ℕ) → Wrote out at (a ∷ b ∷ c ∷ []) (at + 3) (set (set (set out at a) (at + 1) b) (at + 2) c)
unfolding put
wrote_three out at a b c = let e : at + 1 + 1 ≡ at + 2 = omega arith in record { end = refl; bytes = rw e }

pub wrote_four : (out : List ℕ) (at a b c d : ℕ) → Wrote out at (a ∷ b ∷ c ∷ d ∷ []) (at + 4) (set (set (set (set out at a) (at + 1) b) (at + 2) c) (at + 3) d)
unfolding put
wrote_four out at a b c d =
    let e : at + 1 + 1 ≡ at + 2 = omega arith in
    let f : at + 2 + 1 ≡ at + 3 = omega arith in
    record { end = refl; bytes = rw (e, f) }

pub wrote_none : (out : List ℕ) (at : ℕ) → Wrote out at [] at out
unfolding put
wrote_none out at = record { end = sym (add-zero at); bytes = refl }

pub wrote_length : {out : List ℕ} {at : ℕ} {bs : List ℕ} {e : ℕ} {last : List ℕ} → Wrote out at bs e last → length last ≡ length out
wrote_length {out} {at} {bs} w = ap length w.bytes ∙ length-put out at bs

-- a loop that writes bs has come to the place m, left mid, and has rest still to write
pub record Writing (out : List ℕ) (at : ℕ) (bs : List ℕ) (m : ℕ) (mid rest : List ℕ) : Type 0 where
  pub end : m + length rest ≡ at + length bs
  pub bytes : put mid m rest ≡ put out at bs
  pub size : length mid ≡ length out

pub writing_start : (out : List ℕ) (at : ℕ) (bs : List ℕ) → Writing out at bs at out bs
writing_start out at bs = record { end = refl; bytes = refl; size = refl }

-- a turn writes a, the first part of the rest
pub writing-turn : {out : List ℕ} {at : ℕ} {bs : List ℕ} {m : ℕ} {mid : List ℕ} {e : ℕ} {last rest : List ℕ} (a b : List ℕ)
    → rest ≡ a ++ b → Writing out at bs m mid rest → Wrote mid m a e last → Writing out at bs e last b
writing-turn {out} {at} {bs} {m} {mid} {e} {last} {rest} a b p s w =
    record {
      end = omega (arith, s.end, w.end, length-append a b, ap length p);
      bytes =
          ap (λ (o : List ℕ). put o e b) w.bytes ∙ ap (λ (k : ℕ). put (put mid m a) k b) w.end
          ∙ put-put a mid m b ∙ ap (λ (r : List ℕ). put mid m r) (sym p) ∙ s.bytes;
      size = wrote_length w ∙ s.size;
    }

pub writing-end : {out : List ℕ} {at : ℕ} {bs : List ℕ} {m : ℕ} {mid rest : List ℕ} → rest ≡ [] → Writing out at bs m mid rest → Wrote out at bs m mid
unfolding put
writing-end {out} {at} {bs} {m} {mid} {rest} z s =
    record { end = omega (arith, s.end, ap length z); bytes = rw z at s.bytes }

-- where the whole has room, so has the first part of the rest
pub writing-room : {out : List ℕ} {at : ℕ} {bs : List ℕ} {m : ℕ} {mid rest : List ℕ} (a b : List ℕ)
    → rest ≡ a ++ b → Writing out at bs m mid rest → at + length bs ≤ length out → m + length a ≤ length mid
writing-room a b p s h = omega (arith, s.end, s.size, length-append a b, ap length p)

-- ---- what a writer says, and what its caller knows

-- every question is answered "yes"
abbrev pub AllHold : List Question → Type 0
AllHold [] = Unit {0}
AllHold (q ∷ qs) = (q.holds ≡ true) × AllHold qs

asked-append : (a b : List Question) (w : Written) → asked (a ++ b) w ≡ asked a (asked b w)
unfolding asked
asked-append [] b w = refl
asked-append (q ∷ a) b w = ap (λ (x : Written). cond q.holds x (Refused q.number)) (asked-append a b w)

pub asked-all : (qs : List Question) (w : Written) → AllHold qs → asked qs w ≡ w
unfolding asked
asked-all [] w h = refl
asked-all (q ∷ qs) w h = rw h.0 (asked-all qs w h.1)

cond-to : (b : Bool) (w : Written) (m e : ℕ) → cond b w (Refused m) ≡ To e → (b ≡ true) × (w ≡ To e)
cond-to true w m e p = (refl, p)
cond-to false w m e p = let z : ◌≡◌ {A = ℕ} 0 1 = cc in absurd (omega arith)

pub asked-to : (qs : List Question) (w : Written) (e : ℕ) → asked qs w ≡ To e → AllHold qs × (w ≡ To e)
unfolding asked
asked-to [] w e p = (tt, p)
asked-to (q ∷ qs) w e p =
    let x = cond-to q.holds (asked qs w) q.number e p in
    let y = asked-to qs w e x.1 in
    ((x.0, y.0), y.1)

-- a writer accepted: every question holds, there is room, and it ends after its bytes
pub record Accepted (before after : List Question) (out : List ℕ) (at : ℕ) (bs : List ℕ) (e : ℕ) : Type 0 where
  pub first : AllHold before
  pub rest : AllHold after
  pub room : at + length bs ≤ length out
  pub end : e ≡ at + length bs

module _ (before after : List Question) (out : List ℕ) (at : ℕ) (bs : List ℕ) where
  -- the questions one after the other
  pub in_order_lem : written before after out at bs
      ≡ asked before
      (cond (leb at (length out)) (asked after (cond (leb (at + length bs) (length out)) (To (at + length bs)) (Refused 14))) (Refused 12))
  unfolding written asked
  in_order_lem =
      asked-append before _ _
      ∙ ap (λ (w : Written). asked before (cond (leb at (length out)) w (Refused 12)))
      (asked-append after (ask 14 (leb (at + length bs) (length out)) ∷ []) (To (at + length bs)))

  pub written-to : AllHold before → AllHold after → at + length bs ≤ length out → written before after out at bs ≡ To (at + length bs)
  written-to f r h =
      in_order_lem ∙ asked-all before _ f
      ∙ rw (le-leb at (length out) (omega arith), le-leb (at + length bs) (length out) h) (asked-all after _ r)

  pub written-outside : AllHold before → length out < at → written before after out at bs ≡ Refused 12
  written-outside f h = in_order_lem ∙ asked-all before _ f ∙ rw (lt-leb at (length out) h)

  pub written-full : AllHold before → AllHold after → at ≤ length out → length out < at + length bs → written before after out at bs ≡ Refused 14
  written-full f r h g =
      in_order_lem ∙ asked-all before _ f
      ∙ rw (le-leb at (length out) h, lt-leb (at + length bs) (length out) g) (asked-all after _ r)

  pub written-accepted : (e : ℕ) → written before after out at bs ≡ To e → Accepted before after out at bs e
  written-accepted e p =
      let x = asked-to before _ e (sym in_order_lem ∙ p) in
      let y = cond-to (leb at (length out)) _ 12 e x.1 in
      let z = asked-to after _ e y.1 in
      let w = cond-to (leb (at + length bs) (length out)) (To (at + length bs)) 14 e z.1 in
      let q = w.1 in
      record { first = x.0; rest = z.0; room = leb-true (at + length bs) (length out) w.0; end = cc }

  -- a writer that was called said r and left last
  module _ {r : Written} {last : List ℕ} (says : r ≡ written before after out at bs) (left : last ≡ output_after r out at bs) where
    pub wrote_to : (e : ℕ) → r ≡ To e → Wrote out at bs e last
    unfolding output_after
    wrote_to e p = record { end = (written-accepted e (sym says ∙ p)).end; bytes = rw p at left }

    pub wrote_checked : AllHold before → AllHold after → at + length bs ≤ length out → Wrote out at bs (at + length bs) last
    wrote_checked f t h = wrote_to (at + length bs) (says ∙ written-to f t h)

    pub wrote_refused : (m : ℕ) → r ≡ Refused m → last ≡ out
    unfolding output_after
    wrote_refused m p = rw p at left
