-- Laws of zigzag: document 01's rule over the integers, the order, and at any width the ranges and both round trips.
use Rattle.std.specs.Prelude.{ℕ, suc, ◌+◌, ◌-◌, ◌*◌, ◌/◌, ◌%◌, ◌^◌, ◌≤◌, ◌<◌, ◌≡◌, refl, ℤ, pos, negsuc, neg_ℤ, nat_abs, ◌-ℤ◌, ◌*ℤ◌, ◌≤ℤ◌, ◌<ℤ◌}
use Rattle.std.proofs.Common.{ap, ◌∙◌, pow-suc, arith, eq-eqb, ne_eqb, le-ltb, ltb→lt}
use Rattle.std.proofs.Math.Decide.{ℕ_discrete}
use Rattle.std.proofs.Math.IntN.{neg_ℤ-neg_ℤ}
use Rattle.std.specs.Int.Signed.{mag}
use Rattle.std.specs.Int.{Width}
use mir.Val.{Fits, SFits, bits}
use mir.ValLaws.{bits-suc}
use Rattle.vlq_zigzag.specs.Zigzag.{zigzag_encode, zigzag_decode}
use Rattle.vlq_zigzag.specs.Width.{Signed, Unsigned}
use Rattle.vlq_zigzag.proofs.WidthLaws.{signed_mag, mag_signed, fits_signed}

-- ---- the rule

pub encode_above : (n : ℤ) → pos 0 ≤ℤ n → pos (zigzag_encode n) ≡ pos 2 *ℤ n
unfolding zigzag_encode
encode_above (pos k) h = refl
encode_above (negsuc k) h = absurd h.le

pub encode-below : (n : ℤ) → n <ℤ pos 0 → pos (zigzag_encode n) ≡ neg_ℤ (pos 2 *ℤ n) -ℤ pos 1
unfolding zigzag_encode
encode-below (pos k) h = absurd (omega (arith, ltb→lt k 0 h.lt))
encode-below (negsuc k) h = rw (neg_ℤ-neg_ℤ (pos (2 * suc k)), le-ltb (2 * suc k) 1 (omega arith))

-- ---- the order: 0, -1, 1, -2, 2 .. are encoded as 0, 1, 2, 3, 4 ..

pub encode-zero : zigzag_encode (pos 0) ≡ 0
unfolding zigzag_encode
encode-zero = refl

-- -(k + 1) comes after k
pub encode-next-below : (k : ℕ) → zigzag_encode (negsuc k) ≡ zigzag_encode (pos k) + 1
unfolding zigzag_encode
encode-next-below k = omega arith

-- k + 1 comes after -(k + 1)
pub encode-next_above : (k : ℕ) → zigzag_encode (pos (k + 1)) ≡ zigzag_encode (negsuc k) + 1
unfolding zigzag_encode
encode-next_above k = omega arith

pub encode-most : (n : ℤ) → zigzag_encode n ≤ 2 * nat_abs n
unfolding zigzag_encode
encode-most (pos k) = omega arith
encode-most (negsuc k) = omega arith

pub encode_order : (m n : ℤ) → nat_abs m < nat_abs n → zigzag_encode m < zigzag_encode n
unfolding zigzag_encode
encode_order (pos j) (pos k) h = omega arith
encode_order (pos j) (negsuc k) h = omega arith
encode_order (negsuc j) (pos k) h = omega arith
encode_order (negsuc j) (negsuc k) h = omega arith

-- ---- both round trips

pub decode_even : (m : ℕ) → m % 2 ≡ 0 → zigzag_decode m ≡ pos (m / 2)
unfolding zigzag_decode
decode_even m h = rw (eq-eqb (m % 2) 0 h)

pub decode_odd : (m : ℕ) → ¬ (m % 2 ≡ 0) → zigzag_decode m ≡ negsuc (m / 2)
unfolding zigzag_decode
decode_odd m h = let e : (m + 1) / 2 ≡ suc (m / 2) = omega arith in rw (ne_eqb (m % 2) 0 h, e)

pub decode-encode : (n : ℤ) → zigzag_decode (zigzag_encode n) ≡ n
unfolding zigzag_encode
decode-encode (pos k) = decode_even (2 * k) (omega arith) ∙ ap pos (omega arith)
decode-encode (negsuc k) = decode_odd (2 * suc k - 1) (omega arith) ∙ ap negsuc (omega arith)

pub encode-decode : (m : ℕ) → zigzag_encode (zigzag_decode m) ≡ m
unfolding zigzag_encode
encode-decode m = side (ℕ_discrete (m % 2) 0)
  where
    side : Dec (m % 2 ≡ 0) → zigzag_encode (zigzag_decode m) ≡ m
    side (yes h) = ap zigzag_encode (decode_even m h) ∙ omega arith
    side (no h) = ap zigzag_encode (decode_odd m h) ∙ omega arith

-- ---- at any width

-- encoding and decoding are one to one between the signed numbers of w bits and the unsigned ones
pub record OneToOne (w : ℕ) : Type 0 where
  pub encodes : (n : ℤ) → Signed w n → Unsigned w (zigzag_encode n)
  pub decodes : (m : ℕ) → Unsigned w m → Signed w (zigzag_decode m)
  pub back : (n : ℤ) → Signed w n → zigzag_decode (zigzag_encode n) ≡ n
  pub forth : (m : ℕ) → Unsigned w m → zigzag_encode (zigzag_decode m) ≡ m

mag_decode : (m : ℕ) → mag (zigzag_decode m) ≡ m / 2
mag_decode m = side (ℕ_discrete (m % 2) 0)
  where
    side : Dec (m % 2 ≡ 0) → mag (zigzag_decode m) ≡ m / 2
    side (yes h) = ap mag (decode_even m h)
    side (no h) = ap mag (decode_odd m h)

encode_mag : (n : ℤ) → zigzag_encode n ≤ 2 * mag n + 1
unfolding zigzag_encode
encode_mag (pos k) = omega arith
encode_mag (negsuc k) = omega arith

pub one-to-one : (w : ℕ) → 0 < w → OneToOne w
one-to-one w h =
    let double : 2 ^ w ≡ 2 ^ (w - 1) * 2 = ap (λ (k : ℕ). 2 ^ k) (omega arith) ∙ pow-suc 2 (w - 1) in
    record {
      encodes = λ n s. let b = signed_mag w n s in record { highest = omega (arith, encode_mag n) };
      decodes = λ m u. mag_signed w (zigzag_decode m) (omega (arith, mag_decode m));
      back = λ n s. decode-encode n;
      forth = λ m u. encode-decode m;
    }

pub one-to-one_32 : OneToOne 32
one-to-one_32 = one-to-one 32 (omega arith)

pub one-to-one_64 : OneToOne 64
one-to-one_64 = one-to-one 64 (omega arith)

-- so a machine integer's encoding fits the unsigned type of its width, and an unsigned one's decoding the signed type
pub encode-fits : (w : Width) (n : ℤ) → SFits w n → Fits w (zigzag_encode n)
encode-fits w n f = record { fits = ((one-to-one (bits w) (omega (arith, bits-suc w))).encodes n ((fits_signed w n).0 f)).highest }

pub decode-fits : (w : Width) (m : ℕ) → Fits w m → SFits w (zigzag_decode m)
decode-fits w m f =
    (fits_signed w (zigzag_decode m)).1 ((one-to-one (bits w) (omega (arith, bits-suc w))).decodes m (record { highest = f.fits }))
