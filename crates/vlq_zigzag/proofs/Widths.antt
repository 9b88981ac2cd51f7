-- What the encoders and the decoders need, once for every width.
-- A signed value is read back from its bits, as `to_z w (of_z w n)`, which is n since n fits.
-- Below 0 the encoder's -1 - n is `mag n`, and the decoder's -1 - h is -(h + 1).
use Prim.Native.Nat.{ℕ, zero, suc, ◌+◌, ◌*◌, ◌/◌, ◌%◌, ◌^◌, ◌<◌}
use mathlib.Core.Bool.{true, false, true≢false}
use mathlib.Core.Path.{◌≡◌, refl, ap, sym, ◌∙◌, subst}
use native.Mathlib.Nat.{zero-add}
use native.Mathlib.Omega.{arith}
use borrow.Author.Tests.{ltb-true}
use lib.Dec.{T}
use lib.IntN.{ℤ, pos, negsuc, nat_abs, ◌-ℤ◌}
use lib.Signed.{lt_z, non_neg}
use mir.Syntax.{Width}
use mir.Val.{Fits, SFits, hbits, to_z, of_z}
use mir.ValLaws.{pow-bits, to_z_pos, to_z-of_z}
use Rattle.vlq_zigzag.specs.Zigzag.{zigzag_encode, zigzag_decode}
use Rattle.vlq_zigzag.proofs.ZigzagLaws.{decode_even, decode_odd}
use Rattle.vlq_zigzag.proofs.WidthLaws.{minus_below}

minus_above : (h : ℕ) → negsuc 0 -ℤ pos h ≡ negsuc h
minus_above zero = refl
minus_above (suc h) = rw (zero-add h)

-- n below 0, read back as y
pub record Below (w : Width) (n y : ℤ) : Type 0 where
  pub sub : SFits w (negsuc 0 -ℤ y)
  pub cast : T (non_neg (to_z w (of_z w (negsuc 0 -ℤ y)))) × Fits w (nat_abs (to_z w (of_z w (negsuc 0 -ℤ y))))
  pub mul : Fits w (2 * nat_abs (to_z w (of_z w (negsuc 0 -ℤ y))))
  pub add : Fits w (2 * nat_abs (to_z w (of_z w (negsuc 0 -ℤ y))) + 1)
  pub result : 2 * nat_abs (to_z w (of_z w (negsuc 0 -ℤ y))) + 1 ≡ zigzag_encode n

-- n at or above 0, read back as y
pub record Above (w : Width) (n y : ℤ) : Type 0 where
  pub cast : T (non_neg y) × Fits w (nat_abs y)
  pub mul : Fits w (2 * nat_abs y)
  pub result : 2 * nat_abs y ≡ zigzag_encode n

module _ (w : Width) where
  below_plain : (n : ℤ) → SFits w n → lt_z n (pos 0) ≡ true → Below w n n
  unfolding zigzag_encode
  below_plain (pos k) f t = absurd (omega (arith, ltb-true k 0 t))
  below_plain (negsuc k) f t =
      let e : to_z w (of_z w (negsuc 0 -ℤ negsuc k)) ≡ pos k = ap (λ (z : ℤ). to_z w (of_z w z)) (minus_below k) ∙ to_z_pos w k f.sfits in
      record {
        sub = rw (minus_below k) (record { sfits = f.sfits });
        cast = rw e (tt, record { fits = omega (arith, pow-bits w) });
        mul = rw e (record { fits = omega (arith, pow-bits w) });
        add = rw e (record { fits = omega (arith, pow-bits w) });
        result = rw e (omega arith);
      }

  above_plain : (n : ℤ) → SFits w n → lt_z n (pos 0) ≡ false → Above w n n
  unfolding zigzag_encode
  above_plain (pos k) f t =
      record { cast = (tt, record { fits = omega (arith, pow-bits w) }); mul = record { fits = omega (arith, pow-bits w) }; result = refl }
  above_plain (negsuc k) f t = absurd (true≢false t)

  pub below : (n : ℤ) → SFits w n → lt_z (to_z w (of_z w n)) (pos 0) ≡ true → Below w n (to_z w (of_z w n))
  below n f = subst (λ (y : ℤ). lt_z y (pos 0) ≡ true → Below w n y) (sym (to_z-of_z w n f)) (below_plain n f)

  pub above : (n : ℤ) → SFits w n → lt_z (to_z w (of_z w n)) (pos 0) ≡ false → Above w n (to_z w (of_z w n))
  above n f = subst (λ (y : ℤ). lt_z y (pos 0) ≡ false → Above w n y) (sym (to_z-of_z w n f)) (above_plain n f)

  module _ (m : ℕ) (f : Fits w m) where
    half-fits : m / 2 < 2 ^ hbits w
    half-fits = omega (arith, f.fits, pow-bits w)

    pub half : SFits w (pos (m / 2))
    half = record { sfits = half-fits }

    minus_half : negsuc 0 -ℤ to_z w (m / 2) ≡ negsuc (m / 2)
    minus_half = ap (λ (z : ℤ). negsuc 0 -ℤ z) (to_z_pos w (m / 2) half-fits) ∙ minus_above (m / 2)

    pub minus_fits : SFits w (negsuc 0 -ℤ to_z w (m / 2))
    minus_fits = rw minus_half (record { sfits = half-fits })

    pub even : m % 2 ≡ 0 → to_z w (m / 2) ≡ zigzag_decode m
    even h = to_z_pos w (m / 2) half-fits ∙ sym (decode_even m h)

    pub odd : ¬ (m % 2 ≡ 0) → to_z w (of_z w (negsuc 0 -ℤ to_z w (m / 2))) ≡ zigzag_decode m
    odd h = to_z-of_z w (negsuc 0 -ℤ to_z w (m / 2)) minus_fits ∙ minus_half ∙ sym (decode_odd m h)
