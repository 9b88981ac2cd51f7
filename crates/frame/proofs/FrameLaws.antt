-- Laws of frames: the cut law with 5 and 8 as cuts, where a frame and its body stand, and that what is written is read back.
use Prim.Native.Nat.{ℕ, zero, suc, ◌+◌, ◌≤◌, ◌<◌, ◌^◌}
use Rattle.std.proofs.Common.{arith, append_assoc, ap, sym, ◌∙◌, length-append, drop-cons, le-leb}
use Rattle.std.specs.Prelude.{Bool, true, false, List, [], ◌∷◌, ◌++◌, ◌≡◌, refl, T, leb, length, get_or, take, drop}
use Rattle.std.proofs.Math.Seq.{get_or-take}
use Rattle.wire.specs.Bytes.{big_endian, big_endian_bytes, same_bytes}
use Rattle.wire.proofs.BytesLaws.{same_self, length-big_endian_bytes, big_endian_bytes_lem}
use Rattle.wire.specs.Reader.{Answer, got, bind, guard, field, Segment}
use Rattle.wire.proofs.AnswerLaws.{no_answer, bind-got}
use Rattle.wire.proofs.ReaderLaws.{Taken, field-got, field-taken, length_part}
use Rattle.wire.specs.Stable.{Stable, AtLeast}
use Rattle.wire.proofs.StableLaws.{stable_then, stable_pure, stable_place, stable_guard, stable_field, take-drop-take}
use Rattle.wire.specs.ReadsBack.{StandsAt, ReadsBack}
use Rattle.wire.proofs.ReadsBackLaws.{bytes_of, stands-left, stands_right, reads-pure, reads-place, reads-guard, reads_then, reads-last}
use Rattle.vlq.specs.Vlq.{limit}
use Rattle.blake2b.specs.Blake2b.{check}
use Rattle.blake2b.proofs.CheckLaws.{length-check}
use Rattle.types.specs.declared.Network.{Network}
use Rattle.types.specs.Magic.{magic_of}
use Rattle.types.proofs.MagicLaws.{length-magic}
use Rattle.frame.specs.Frame.{Header, header, BodyFrame, Checked, checked, body, frame, checked_bytes, frame_bytes}

-- ---- the cut law

module _ {is_cut : ℕ → Bool} where
  stable_header : T (is_cut 5) → Stable is_cut header
  unfolding header
  stable_header five =
      stable_field 5 9 _ five
      (record { same = λ s at k h u. rw (take-drop-take 4 at k s (omega arith), get_or-take k s (at + 4) 0 (omega arith), take-drop-take 4 (at + 5) k s (omega arith)) })

  stable_checked : T (is_cut 8) → (n : ℕ) → Stable is_cut (checked n)
  unfolding checked
  stable_checked eight n =
      stable_field 8 (4 + n) _ eight
      (record { same = λ s at k h u. rw (take-drop-take 4 at k s (omega arith), take-drop-take n (at + 4) k s (omega arith)) })

  stable_body : T (is_cut 8) → (n : ℕ) → Stable is_cut (body n)
  unfolding body
  stable_body eight zero = stable_then stable_place (λ at. stable_pure _)
  stable_body eight (suc n) = stable_then (stable_checked eight (suc n)) (λ c. stable_guard (same_bytes c.check (check c.body.bytes)) 9 c.body)

  -- where 5 and 8 count as cuts
  pub stable_frame : (network : Network) → T (is_cut 5) → T (is_cut 8) → Stable is_cut (frame network)
  unfolding frame
  stable_frame network five eight =
      stable_then (stable_header five) (λ h.
      stable_then (stable_guard (same_bytes h.magic (magic_of network)) 6 h) (λ h.
      stable_then (stable_guard (leb h.body_length limit) 7 h) (λ h.
      stable_then (stable_body eight h.body_length) (λ b.
      stable_pure (record { code = h.code; body = b })))))

-- ---- where a frame and its body stand

-- what was read by one reader and then another was read by each
then_got : {A B P : Type 0} {r : Answer A} {f : A → ℕ → Answer B} {b : B} {e : ℕ} → bind r f ≡ got b e
    → ((a : A) (d : ℕ) → r ≡ got a d → f a d ≡ got b e → P) → P
then_got {r = r} {f = f} q k = let b = bind-got r f q in k b.value b.next b.answer b.rest

guard-got : {A : Type 0} (t : Bool) (m : ℕ) (a : A) (s : List ℕ) (at : ℕ) {b : A} {e : ℕ} → guard t m a s at ≡ got b e → (b ≡ a) × (e ≡ at)
guard-got true m a s at q = (cc, cc)
guard-got false m a s at q = no_answer q

-- where the body of n bytes of a frame at a place starts: after magic, code and length, and after the check if it has one
unfoldable pub body_start : ℕ → ℕ → ℕ
body_start at zero = at + 9
body_start at (suc n) = at + 13

-- the places of a frame that was read from a place: its body's start and its end, within the bytes
pub record Places (s : List ℕ) (at : ℕ) (g : Segment) (end : ℕ) : Type 0 where
  pub start : g.start ≡ body_start at (length g.bytes)
  pub ends : end ≡ g.start + length g.bytes
  pub within : end ≤ length s
  pub stands : g.bytes ≡ take (length g.bytes) (drop g.start s)

checked-places : (n : ℕ) (s : List ℕ) (at : ℕ) (c : Checked) (e : ℕ) → checked (suc n) s (at + 9) ≡ got c e → Places s at c.body e
unfolding checked body_start
checked-places n s at c e q =
    let t : Taken (4 + suc n) _ (checked (suc n)) = field-taken 8 (4 + suc n) _ in
    let r = t.read s (at + 9) c e q in
    let l : length (take (suc n) (drop (at + 9 + 4) s)) ≡ suc n = length_part (suc n) s (at + 9 + 4) (omega arith) in
    rw r.1 (record { start = rw l (omega arith); ends = omega arith; within = omega arith; stands = rw l })

body-places : (n : ℕ) (s : List ℕ) (at : ℕ) {g : Segment} {e : ℕ} → at + 9 ≤ length s → body n s (at + 9) ≡ got g e → Places s at g e
unfolding body body_start
body-places zero s at {g} {e} h q =
    let eg : g ≡ record { start = at + 9; bytes = [] } = cc in
    let ee : e ≡ at + 9 = cc in
    rw (eg, ee) (record { start = refl; ends = omega arith; within = h; stands = refl })
body-places (suc n) s at {g} {e} h q =
    then_got {A = Checked} q (λ c d r q.
    let t = guard-got (same_bytes c.check (check c.body.bytes)) 9 c.body s d q in
    rw (t.0, t.1) (checked-places n s at c d r))

header-places : (s : List ℕ) (at : ℕ) (h : Header) (e : ℕ) → header s at ≡ got h e → (at + 9 ≤ length s) × (e ≡ at + 9)
unfolding header
header-places s at h e q =
    let t : Taken 9 _ header = field-taken 5 9 _ in
    let r = t.read s at h e q in
    (r.0, r.2)

pub frame-places : (network : Network) (s : List ℕ) (at : ℕ) {f : BodyFrame} {e : ℕ} → frame network s at ≡ got f e → Places s at f.body e
unfolding frame
frame-places network s at {f} {e} q =
    then_got {A = Header} q (λ h₁ d₁ r₁ q.
    then_got {A = Header} q (λ h₂ d₂ r₂ q.
    then_got {A = Header} q (λ h₃ d₃ r₃ q.
    then_got {A = Segment} q (λ b d (r : body h₃.body_length s d₃ ≡ got b d) (q : got (record { code = h₃.code; body = b }) d ≡ got f e).
    let p = header-places s at h₁ d₁ r₁ in
    let t = guard-got (same_bytes h₁.magic (magic_of network)) 6 h₁ s d₁ r₂ in
    let u = guard-got (leb h₂.body_length limit) 7 h₂ s d₂ r₃ in
    let z : d₃ ≡ at + 9 = omega arith in
    let eb : f.body ≡ b = cc in
    let ed : e ≡ d = cc in
    rw (eb, ed) (body-places h₃.body_length s at p.0 (rw z at r))))))

pub least-frame : (network : Network) → AtLeast 9 (frame network)
unfolding body_start
least-frame network = record { moves = λ s at f e h q. let p = frame-places network s at q in omega (arith, start-least at (length f.body.bytes)) }
  where
    start-least : (at n : ℕ) → at + 9 ≤ body_start at n
    start-least at zero = omega arith
    start-least at (suc n) = omega arith

-- ---- reading back

-- a field reads back where its value is that of the bytes that stand there
reads-field : {A X : Type 0} (m n : ℕ) (v : List ℕ → ℕ → A) {see : A → X} {w : List ℕ} {x : X} → length w ≡ n
    → ((s : List ℕ) (at : ℕ) → StandsAt s at w → see (v s at) ≡ x) → ReadsBack (field m n v) see w x
reads-field m n v {see} {w} size h =
    record { reads = λ s at g. (v s at, field-got m n v s at (omega (arith, g.within)) ∙ ap (λ (k : ℕ). got (v s at) (at + k)) (sym size), h s at g) }

stands-first : {s : List ℕ} {at b : ℕ} {bs : List ℕ} → StandsAt s at (b ∷ bs) → get_or s at 0 ≡ b
stands-first {s} {at} {b} {bs} h =
    let l : at < length s = omega (arith, h.within) in
    let e : get_or s at 0 ∷ take (length bs) (drop (suc at) s) ≡ b ∷ bs = ap (take (suc (length bs))) (sym (drop-cons s at 0 l)) ∙ h.bytes in
    cc

header_bytes : Header → List ℕ
header_bytes h = h.magic ++ (h.code ∷ big_endian_bytes 4 h.body_length)

length-header : (h : Header) → length h.magic ≡ 4 → length (header_bytes h) ≡ 9
unfolding header_bytes
length-header h four =
    omega (arith, length-append h.magic (h.code ∷ big_endian_bytes 4 h.body_length), length-big_endian_bytes 4 h.body_length)

header_bytes_lem : (h : Header) → length h.magic ≡ 4 → h.body_length < 256 ^ 4 → (s : List ℕ) (at : ℕ) → StandsAt s at (header_bytes h)
    → (take 4 (drop at s) ≡ h.magic) × (get_or s (at + 4) 0 ≡ h.code) × (big_endian (take 4 (drop (at + 5) s)) ≡ h.body_length)
unfolding header_bytes
header_bytes_lem h four small s at w =
    let n : List ℕ = big_endian_bytes 4 h.body_length in
    let m : StandsAt s at h.magic = stands-left h.magic (h.code ∷ n) w in
    let c : StandsAt s (at + 4) (h.code ∷ n) = rw four at (stands_right h.magic (h.code ∷ n) w) in
    let r : StandsAt s (at + 4 + 1) n = stands_right (h.code ∷ []) n c in
    let e : at + 4 + 1 ≡ at + 5 = omega arith in
    (rw four at m.bytes, stands-first c, ap big_endian (rw (length-big_endian_bytes 4 h.body_length, e) at r.bytes) ∙ big_endian_bytes_lem 4 h.body_length small)

reads-header : (h : Header) → length h.magic ≡ 4 → h.body_length < 256 ^ 4 → ReadsBack header (λ x. x) (header_bytes h) h
unfolding header
reads-header h four small =
    reads-field 5 9 _ (length-header h four)
    (λ s at w. let r = header_bytes_lem h four small s at w in λ i. record { magic = r.0 i; code = r.1 i; body_length = r.2 i })

-- the check and the body of what was read
abbrev check_and_body : Checked → List ℕ × List ℕ
check_and_body c = (c.check, c.body.bytes)

reads-checked : (sum bs : List ℕ) → length sum ≡ 4 → ReadsBack (checked (length bs)) check_and_body (sum ++ bs) (sum, bs)
unfolding checked
reads-checked sum bs four =
    reads-field 8 (4 + length bs) _ (omega (arith, length-append sum bs))
    (λ s at w. λ i. (rw four at (stands-left sum bs w).bytes i, rw four at (stands_right sum bs w).bytes i))

reads-body : (bs : List ℕ) → ReadsBack (body (length bs)) bytes_of (checked_bytes bs) bs
unfolding body checked_bytes
reads-body [] = reads_then reads-place (λ at e. reads-pure (record { start = at; bytes = [] }) refl)
reads-body (b ∷ bs) =
    reads-last (reads-checked (check (b ∷ bs)) (b ∷ bs) (length-check (b ∷ bs)))
    (λ c e.
    let f : c.check ≡ check (b ∷ bs) = ap (λ (p : List ℕ × List ℕ). p.0) e in
    let g : c.body.bytes ≡ b ∷ bs = ap (λ (p : List ℕ × List ℕ). p.1) e in
    reads-guard (same_bytes c.check (check c.body.bytes)) 9 c.body (rw (f, g) (same_self (check (b ∷ bs)))) g)

-- the code and the body of a frame
pub record FrameValue : Type 0 where
  pub code : ℕ
  pub body : List ℕ

abbrev pub frame_value : BodyFrame → FrameValue
frame_value f = record { code = f.code; body = f.body.bytes }

pub reads-frame : (network : Network) (code : ℕ) (bs : List ℕ) → length bs ≤ limit
    → ReadsBack (frame network) frame_value (frame_bytes network code bs) (record { code = code; body = bs })
unfolding frame frame_bytes header_bytes
reads-frame network code bs small =
    let h : Header = record { magic = magic_of network; code = code; body_length = length bs } in
    rw (sym (append_assoc (magic_of network) (code ∷ big_endian_bytes 4 (length bs)) (checked_bytes bs)))
    (reads_then {w = header_bytes h} {w' = checked_bytes bs} (reads-header h (length-magic network) (omega arith)) (λ h₁ e₁. rw e₁
    (reads_then {see = λ x. x} {w = []} {w' = checked_bytes bs} (reads-guard (same_bytes (magic_of network) (magic_of network)) 6 h (same_self (magic_of network)) refl) (λ h₂ e₂. rw e₂
    (reads_then {see = λ x. x} {w = []} {w' = checked_bytes bs} (reads-guard (leb (length bs) limit) 7 h (le-leb (length bs) limit small) refl) (λ h₃ e₃. rw e₃
    (reads-last (reads-body bs) (λ b e.
    reads-pure (record { code = code; body = b }) (ap (λ (l : List ℕ). record { code = code; body = l }) e)))))))))

-- 9 bytes, or 13 and the body
pub length-frame_bytes : (network : Network) (code : ℕ) (bs : List ℕ) → length (frame_bytes network code bs) ≡ body_start 0 (length bs) + length bs
unfolding frame_bytes header_bytes checked_bytes body_start
length-frame_bytes network code bs =
    let h : Header = record { magic = magic_of network; code = code; body_length = length bs } in
    ap length (sym (append_assoc (magic_of network) (code ∷ big_endian_bytes 4 (length bs)) (checked_bytes bs)))
    ∙ length-append (header_bytes h) (checked_bytes bs) ∙ omega (arith, length-header h (length-magic network), length-checked_bytes bs)
  where
    length-checked_bytes : (bs : List ℕ) → 9 + length (checked_bytes bs) ≡ body_start 0 (length bs) + length bs
    length-checked_bytes [] = refl
    length-checked_bytes (b ∷ bs) = omega (arith, length-append (check (b ∷ bs)) (b ∷ bs), length-check (b ∷ bs))
