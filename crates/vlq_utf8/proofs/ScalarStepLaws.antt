-- The steps of the theorem in ScalarLaws.
-- The idea: `by_lead` says of each row which character numbers its first followers begin, and both directions go through it.
use Rattle.std.specs.Prelude.{Option, Some, None, ℕ, zero, suc, ◌+◌, ◌-◌, ◌*◌, ◌/◌, ◌%◌, ◌≤◌, ◌<◌, true, cond, ◌&&◌, ◌≢◌, ◌≡◌, refl, leb, drop}
use Rattle.std.proofs.lemmas.Bool.{false≢true}
use mathlib.Core.List.{List, [], ◌∷◌, ◌++◌}
use Rattle.std.proofs.Common.{ap, sym, ◌∙◌}
use Rattle.std.proofs.Math.Decide.{dec_lt, dec_le}
use native.Mathlib.Omega.{arith}
use borrow.Author.Tests.{le-leb, lt-leb, leb-true, eqb-true}
use Rattle.wire.proofs.BytesLaws.{and-true}
use Rattle.vlq_utf8.specs.declared.Lead.{Lead}
use Rattle.vlq_utf8.specs.Utf8.{Row, row, lead_rows, lead_in, lead_of, after_lead, utf8_from, utf8}
use Rattle.vlq_utf8.specs.Scalars.{Scalar, Scalars, encode, encode_all, EncodingOf}

-- ---- a test on a number, taken apart

at_most {ℓ} : {A : Type 0} (a n : ℕ) (x y : A) (P : A → Type ℓ) → (a ≤ n → P x) → (n < a → P y) → P (cond (leb a n) x y)
at_most a n x y P f g = side (dec_le a n)
  where
    side : Dec (a ≤ n) → P (cond (leb a n) x y)
    side (yes h) = rw (le-leb a n h) (f h)
    side (no h) = let k : n < a = omega arith in rw (lt-leb a n k) (g k)

-- a lead byte at or after the first of a row
next_row : (b first last n low high : ℕ) (rs : List Row) (P : Option Lead → Type 0) → first ≤ b
    → (b ≤ last → P (Some (record { followers = n; low = low; high = high }))) → (last < b → P (lead_in rs b)) → P (lead_in (row first last n low high ∷ rs) b)
unfolding lead_in
next_row b first last n low high rs P h f g = rw (le-leb first b h) (at_most b last (Some (record { followers = n; low = low; high = high })) (lead_in rs b) P f g)

abbrev Below : ℕ → List Row → Type 0
Below b [] = Unit {0}
Below b (row first last n low high ∷ rs) = (b < first) × Below b rs

below_rows : (rs : List Row) (b : ℕ) → Below b rs → lead_in rs b ≡ None
unfolding lead_in
below_rows [] b h = refl
below_rows (row first last n low high ∷ rs) b h = rw (lt-leb first b h.0) (below_rows rs b h.1)

-- ---- the rows by what they say of the character number

-- x may follow the lead byte b of three octets: 2 * (b - E0) + (x - 80) / 32 is the character number divided by 2048,
-- which is 0 for an overlong form and 27 for a surrogate
record First3 (b x : ℕ) : Type 0 where
  low : 0x80 ≤ x
  high : x ≤ 0xbf
  shortest : 2 * (b - 0xe0) + (x - 0x80) / 32 ≢ 0
  proper : 2 * (b - 0xe0) + (x - 0x80) / 32 ≢ 27

-- x may follow the lead byte b of four octets: 4 * (b - F0) + (x - 80) / 16 is the character number divided by 65536,
-- which is 0 for an overlong form and 16 at most up to U+10FFFF
record First4 (b x : ℕ) : Type 0 where
  low : 0x80 ≤ x
  high : x ≤ 0xbf
  shortest : 1 ≤ 4 * (b - 0xf0) + (x - 0x80) / 16
  highest : 4 * (b - 0xf0) + (x - 0x80) / 16 ≤ 16

-- M holds of the x from lo to hi, and of no others
record Bounds (M : ℕ → Type 0) (lo hi : ℕ) : Type 0 where
  to : (x : ℕ) → lo ≤ x → x ≤ hi → M x
  from : (x : ℕ) → M x → (lo ≤ x) × (x ≤ hi)

module _ (b : ℕ) (P : Option Lead → Type 0)
    (one : b ≤ 0x7f → P (Some (record { followers = 0; low = 0x80; high = 0xbf })))
    (two : 0xc2 ≤ b → b ≤ 0xdf → P (Some (record { followers = 1; low = 0x80; high = 0xbf })))
    (three : (lo hi : ℕ) → 0xe0 ≤ b → b ≤ 0xef → Bounds (First3 b) lo hi → P (Some (record { followers = 2; low = lo; high = hi })))
    (four : (lo hi : ℕ) → 0xf0 ≤ b → b ≤ 0xf4 → Bounds (First4 b) lo hi → P (Some (record { followers = 3; low = lo; high = hi })))
    (between : 0x7f < b → b < 0xc2 → P None)
    (after : 0xf4 < b → P None) where
  from_c2 : 0xc2 ≤ b → P (lead_in (drop 1 lead_rows) b)
  unfolding lead_rows
  from_c2 h₁ =
      next_row b _ _ _ _ _ _ P h₁ (two h₁)
      (λ h₂. next_row b _ _ _ _ _ _ P h₂ (λ g. three _ _ (omega arith) (omega arith) (omega arith))
      (λ h₃. next_row b _ _ _ _ _ _ P h₃ (λ g. three _ _ (omega arith) (omega arith) (omega arith))
      (λ h₄. next_row b _ _ _ _ _ _ P h₄ (λ g. three _ _ (omega arith) (omega arith) (omega arith))
      (λ h₅. next_row b _ _ _ _ _ _ P h₅ (λ g. three _ _ (omega arith) (omega arith) (omega arith))
      (λ h₆. next_row b _ _ _ _ _ _ P h₆ (λ g. four _ _ (omega arith) (omega arith) (omega arith))
      (λ h₇. next_row b _ _ _ _ _ _ P h₇ (λ g. four _ _ (omega arith) (omega arith) (omega arith))
      (λ h₈. next_row b _ _ _ _ _ _ P h₈ (λ g. four _ _ (omega arith) (omega arith) (omega arith))
      (λ h₉. rw (below_rows [] b tt) (after h₉)))))))))

  from_80 : 0x7f < b → Dec (b < 0xc2) → P (lead_in (drop 1 lead_rows) b)
  unfolding lead_rows
  from_80 h (yes g) = rw (below_rows (drop 1 lead_rows) b (omega arith)) (between h g)
  from_80 h (no g) = from_c2 (omega arith)

  by_lead : P (lead_of b)
  unfolding lead_of lead_rows
  by_lead = next_row b _ _ _ _ _ _ P (omega arith) one (λ h. from_80 h (dec_lt b 0xc2))

-- ---- a scalar value's octets are taken, whatever follows them

module _ (l : List ℕ) where
  Taken : List ℕ → Type 0
  Taken bs = utf8 (bs ++ l) ≡ utf8 l

  taken_1 : (b : ℕ) → b ≤ 0x7f → Taken (b ∷ [])
  unfolding Taken utf8 utf8_from
  taken_1 b h =
      by_lead b (λ v. after_lead v (utf8_from l) ≡ utf8_from l 0 0x80 0xbf) (λ h₁. refl) (λ h₁ h₂. absurd (omega arith))
      (λ lo hi h₁ h₂ m. absurd (omega arith)) (λ lo hi h₁ h₂ m. absurd (omega arith)) (λ h₁ h₂. absurd (omega arith)) (λ h₁. absurd (omega arith))

  taken_2 : (b x : ℕ) → 0xc2 ≤ b → b ≤ 0xdf → 0x80 ≤ x → x ≤ 0xbf → Taken (b ∷ x ∷ [])
  unfolding Taken utf8 utf8_from
  taken_2 b x h g p q =
      by_lead b (λ v. after_lead v (utf8_from (x ∷ l)) ≡ utf8_from l 0 0x80 0xbf) (λ h₁. absurd (omega arith))
      (λ h₁ h₂. rw (le-leb 0x80 x p, le-leb x 0xbf q))
      (λ lo hi h₁ h₂ m. absurd (omega arith)) (λ lo hi h₁ h₂ m. absurd (omega arith)) (λ h₁ h₂. absurd (omega arith)) (λ h₁. absurd (omega arith))

  taken_3 : (b x y : ℕ) → 0xe0 ≤ b → b ≤ 0xef → First3 b x → 0x80 ≤ y → y ≤ 0xbf → Taken (b ∷ x ∷ y ∷ [])
  unfolding Taken utf8 utf8_from
  taken_3 b x y h g m p q =
      by_lead b (λ v. after_lead v (utf8_from (x ∷ y ∷ l)) ≡ utf8_from l 0 0x80 0xbf) (λ h₁. absurd (omega arith)) (λ h₁ h₂. absurd (omega arith))
      (λ lo hi h₁ h₂ k. rw (le-leb lo x (k.from x m).0, le-leb x hi (k.from x m).1, le-leb 0x80 y p, le-leb y 0xbf q))
      (λ lo hi h₁ h₂ k. absurd (omega arith)) (λ h₁ h₂. absurd (omega arith)) (λ h₁. absurd (omega arith))

  taken_4 : (b x y z : ℕ) → 0xf0 ≤ b → b ≤ 0xf4 → First4 b x → 0x80 ≤ y → y ≤ 0xbf → 0x80 ≤ z → z ≤ 0xbf → Taken (b ∷ x ∷ y ∷ z ∷ [])
  unfolding Taken utf8 utf8_from
  taken_4 b x y z h g m p q r s =
      by_lead b (λ v. after_lead v (utf8_from (x ∷ y ∷ z ∷ l)) ≡ utf8_from l 0 0x80 0xbf) (λ h₁. absurd (omega arith)) (λ h₁ h₂. absurd (omega arith))
      (λ lo hi h₁ h₂ k. absurd (omega arith))
      (λ lo hi h₁ h₂ k.
      rw (le-leb lo x (k.from x m).0, le-leb x hi (k.from x m).1, le-leb 0x80 y p, le-leb y 0xbf q, le-leb 0x80 z r, le-leb z 0xbf s))
      (λ h₁ h₂. absurd (omega arith)) (λ h₁. absurd (omega arith))

  taken : (c : ℕ) → Scalar c → Taken (encode c)
  unfolding encode
  taken c s =
      let proper : c / 2048 ≢ 27 = λ e. s.proper (omega arith, omega arith) in
      at_most c 0x7f _ _ Taken (taken_1 c)
      (λ h₁. at_most c 0x7ff _ _ Taken (λ h. taken_2 _ _ (omega arith) (omega arith) (omega arith) (omega arith))
      (λ h₂. at_most c 0xffff _ _ Taken (λ h. taken_3 _ _ _ (omega arith) (omega arith) (omega arith) (omega arith) (omega arith))
      (λ h₃. taken_4 _ _ _ _ (omega arith) (omega arith) (omega (arith, s.highest)) (omega arith) (omega arith) (omega arith) (omega arith))))

pub accepted : (cs : List ℕ) → Scalars cs → utf8 (encode_all cs) ≡ true
unfolding encode_all utf8 utf8_from Taken
accepted [] s = refl
accepted (c ∷ cs) s = taken (encode_all cs) c s.0 ∙ accepted cs s.1

-- ---- what is accepted is an encoding

Encoding : List ℕ → Type 0
Encoding bs = (cs : List ℕ) × EncodingOf cs bs

-- l is n followers, the first from low to high, and then an encoding
Rest : ℕ → ℕ → ℕ → List ℕ → Type 0
Rest zero low high l = Encoding l
Rest (suc n) low high l = (x : ℕ) × (r : List ℕ) × (l ≡ x ∷ r) × (low ≤ x) × (x ≤ high) × Rest n 0x80 0xbf r

more : (c : ℕ) (bs l : List ℕ) → Scalar c → encode c ≡ bs → Encoding l → Encoding (bs ++ l)
unfolding Encoding encode_all
more c bs l s e t = (c ∷ t.0, record { scalars = (s, t.1.scalars); bytes = rw (e, t.1.bytes) })

encode_1 : (c : ℕ) → c ≤ 0x7f → encode c ≡ c ∷ []
unfolding encode
encode_1 c h = rw (le-leb c 0x7f h)

encode_2 : (b x c : ℕ) → 0xc2 ≤ b → b ≤ 0xdf → 0x80 ≤ x → x ≤ 0xbf → c ≡ (b - 0xc0) * 64 + (x - 0x80) → encode c ≡ b ∷ x ∷ []
unfolding encode
encode_2 b x c h g p q e =
    let e₁ : 0xc0 + c / 64 ≡ b = omega arith in
    let e₂ : 0x80 + c % 64 ≡ x = omega arith in
    rw (lt-leb c 0x7f (omega arith), le-leb c 0x7ff (omega arith), e₁, e₂)

encode_3 : (b x y c : ℕ) → 0xe0 ≤ b → b ≤ 0xef → First3 b x → 0x80 ≤ y → y ≤ 0xbf → c ≡ (b - 0xe0) * 4096 + (x - 0x80) * 64 + (y - 0x80)
    → encode c ≡ b ∷ x ∷ y ∷ []
unfolding encode
encode_3 b x y c h g m p q e =
    let e₁ : 0xe0 + c / 4096 ≡ b = omega arith in
    let e₂ : 0x80 + c / 64 % 64 ≡ x = omega arith in
    let e₃ : 0x80 + c % 64 ≡ y = omega arith in
    rw (lt-leb c 0x7f (omega arith), lt-leb c 0x7ff (omega arith), le-leb c 0xffff (omega arith), e₁, e₂, e₃)

encode_4 : (b x y z c : ℕ) → 0xf0 ≤ b → b ≤ 0xf4 → First4 b x → 0x80 ≤ y → y ≤ 0xbf → 0x80 ≤ z → z ≤ 0xbf
    → c ≡ (b - 0xf0) * 262144 + (x - 0x80) * 4096 + (y - 0x80) * 64 + (z - 0x80) → encode c ≡ b ∷ x ∷ y ∷ z ∷ []
unfolding encode
encode_4 b x y z c h g m p q r s e =
    let e₁ : 0xf0 + c / 262144 ≡ b = omega arith in
    let e₂ : 0x80 + c / 4096 % 64 ≡ x = omega arith in
    let e₃ : 0x80 + c / 64 % 64 ≡ y = omega arith in
    let e₄ : 0x80 + c % 64 ≡ z = omega arith in
    rw (lt-leb c 0x7f (omega arith), lt-leb c 0x7ff (omega arith), lt-leb c 0xffff (omega arith), e₁, e₂, e₃, e₄)

two_octets : (b : ℕ) (l : List ℕ) → 0xc2 ≤ b → b ≤ 0xdf → Rest 1 0x80 0xbf l → Encoding (b ∷ l)
unfolding Rest
two_octets b l h g (x, r, e, p, q, t) =
    let c : ℕ = (b - 0xc0) * 64 + (x - 0x80) in
    rw e (more c (b ∷ x ∷ []) r (record { highest = omega arith; proper = omega arith }) (encode_2 b x c h g p q refl) t)

three_octets : (b lo hi : ℕ) (l : List ℕ) → 0xe0 ≤ b → b ≤ 0xef → Bounds (First3 b) lo hi → Rest 2 lo hi l → Encoding (b ∷ l)
unfolding Rest
three_octets b lo hi l h g k (x, r, e, p, q, (y, r', e', p', q', t)) =
    let m : First3 b x = k.to x p q in
    let c : ℕ = (b - 0xe0) * 4096 + (x - 0x80) * 64 + (y - 0x80) in
    rw (e, e') (more c (b ∷ x ∷ y ∷ []) r' (record { highest = omega arith; proper = omega arith }) (encode_3 b x y c h g m p' q' refl) t)

four_octets : (b lo hi : ℕ) (l : List ℕ) → 0xf0 ≤ b → b ≤ 0xf4 → Bounds (First4 b) lo hi → Rest 3 lo hi l → Encoding (b ∷ l)
unfolding Rest
four_octets b lo hi l h g k (x, r, e, p, q, (y, r', e', p', q', (z, r'', e'', p'', q'', t))) =
    let m : First4 b x = k.to x p q in
    let c : ℕ = (b - 0xf0) * 262144 + (x - 0x80) * 4096 + (y - 0x80) * 64 + (z - 0x80) in
    rw (e, e', e'') (more c (b ∷ x ∷ y ∷ z ∷ []) r'' (record { highest = omega arith; proper = omega arith }) (encode_4 b x y z c h g m p' q' p'' q'' refl) t)

after_lead_lem : (b : ℕ) (l : List ℕ) → ((n low high : ℕ) → utf8_from l n low high ≡ true → Rest n low high l)
    → after_lead (lead_of b) (utf8_from l) ≡ true → Encoding (b ∷ l)
unfolding Rest
after_lead_lem b l ih =
    by_lead b (λ v. after_lead v (utf8_from l) ≡ true → Encoding (b ∷ l))
    (λ h e. more b (b ∷ []) l (record { highest = omega arith; proper = omega arith }) (encode_1 b h) (ih 0 0x80 0xbf e))
    (λ h g e. two_octets b l h g (ih 1 0x80 0xbf e))
    (λ lo hi h g k e. three_octets b lo hi l h g k (ih 2 lo hi e))
    (λ lo hi h g k e. four_octets b lo hi l h g k (ih 3 lo hi e))
    (λ h g e. absurd (false≢true e))
    (λ h e. absurd (false≢true e))

rest_of : (l : List ℕ) (n low high : ℕ) → utf8_from l n low high ≡ true → Rest n low high l
unfolding Rest Encoding utf8_from encode_all
rest_of [] zero low high e = ([], record { scalars = tt; bytes = refl })
rest_of [] (suc n) low high e = let z : suc n ≡ 0 = eqb-true (suc n) 0 e in absurd (omega arith)
rest_of (b ∷ l) zero low high e = after_lead_lem b l (rest_of l) e
rest_of (b ∷ l) (suc n) low high e =
    let p = and-true (leb low b && leb b high) (utf8_from l n 0x80 0xbf) e in
    let q = and-true (leb low b) (leb b high) p.0 in
    (b, l, refl, leb-true low b q.0, leb-true b high q.1, rest_of l n 0x80 0xbf p.1)

pub encoded : (bs : List ℕ) → utf8 bs ≡ true → (cs : List ℕ) × EncodingOf cs bs
unfolding utf8 Rest Encoding
encoded bs = rest_of bs 0 0x80 0xbf

-- ---- of one list only

-- the character numbers taken out of the octets again: n followers are due, and the bits so far are a
decode_from : List ℕ → ℕ → ℕ → List ℕ
decode_from [] n a = []
decode_from (b ∷ l) zero a =
    cond (leb b 0x7f) (b ∷ decode_from l 0 0)
    (cond (leb b 0xdf) (decode_from l 1 (b - 0xc0)) (cond (leb b 0xef) (decode_from l 2 (b - 0xe0)) (decode_from l 3 (b - 0xf0))))
decode_from (b ∷ l) (suc zero) a = (a * 64 + (b - 0x80)) ∷ decode_from l 0 0
decode_from (b ∷ l) (suc (suc n)) a = decode_from l (suc n) (a * 64 + (b - 0x80))

decodes : (c : ℕ) (l : List ℕ) → Scalar c → decode_from (encode c ++ l) 0 0 ≡ c ∷ decode_from l 0 0
unfolding encode decode_from
decodes c l s =
    let P : List ℕ → Type 0 = λ bs. decode_from (bs ++ l) 0 0 ≡ c ∷ decode_from l 0 0 in
    at_most c 0x7f _ _ P (λ h. rw (le-leb c 0x7f h))
    (λ h₁. at_most c 0x7ff _ _ P
    (λ h. let e : (0xc0 + c / 64 - 0xc0) * 64 + (0x80 + c % 64 - 0x80) ≡ c = omega arith in
    rw (lt-leb (0xc0 + c / 64) 0x7f (omega arith), le-leb (0xc0 + c / 64) 0xdf (omega arith), e))
    (λ h₂. at_most c 0xffff _ _ P
    (λ h. let e : ((0xe0 + c / 4096 - 0xe0) * 64 + (0x80 + c / 64 % 64 - 0x80)) * 64 + (0x80 + c % 64 - 0x80) ≡ c = omega arith in
    rw (lt-leb (0xe0 + c / 4096) 0x7f (omega arith), lt-leb (0xe0 + c / 4096) 0xdf (omega arith), le-leb (0xe0 + c / 4096) 0xef (omega arith), e))
    (λ h. let a : c / 262144 * 64 + c / 4096 % 64 ≡ c / 4096 = omega arith in
    let b : c / 4096 * 64 + c / 64 % 64 ≡ c / 64 = omega arith in
    let e : (((0xf0 + c / 262144 - 0xf0) * 64 + (0x80 + c / 4096 % 64 - 0x80)) * 64 + (0x80 + c / 64 % 64 - 0x80)) * 64 + (0x80 + c % 64 - 0x80) ≡ c = omega arith in
    rw (lt-leb (0xf0 + c / 262144) 0x7f (omega arith), lt-leb (0xf0 + c / 262144) 0xdf (omega arith), lt-leb (0xf0 + c / 262144) 0xef (omega arith), e))))

decoded : (cs : List ℕ) → Scalars cs → decode_from (encode_all cs) 0 0 ≡ cs
unfolding encode_all decode_from
decoded [] s = refl
decoded (c ∷ cs) s = decodes c (encode_all cs) s.0 ∙ ap (λ (l : List ℕ). c ∷ l) (decoded cs s.1)

pub only_one : (bs cs ds : List ℕ) → EncodingOf cs bs → EncodingOf ds bs → cs ≡ ds
only_one bs cs ds s t =
    sym (decoded cs s.scalars) ∙ ap (λ (l : List ℕ). decode_from l 0 0) (s.bytes ∙ sym t.bytes) ∙ decoded ds t.scalars
