-- A number that fits a narrow signed width, cast to a wider one and back, stays as it is.
use mathlib.Core.Path.{◌≡◌, ap, ◌∙◌}
use lib.Dec.{T, leb}
use lib.IntN.{ℤ}
use mir.Facts.{sfits_widen, to_z-of_z}
use mir.Syntax.{Width}
use mir.Val.{SFits, hbits, to_z, of_z}

module _ (w v : Width) (wider : T (leb (hbits w) (hbits v))) (z : ℤ) (f : SFits w z) where
  wide : SFits v z
  wide = sfits_widen wider f

  pub widens : SFits v (to_z w (of_z w z))
  widens = rw (to_z-of_z f) wide

  pub widened : to_z v (of_z v (to_z w (of_z w z))) ≡ z
  widened = ap (λ (y : ℤ). to_z v (of_z v y)) (to_z-of_z f) ∙ to_z-of_z wide

  pub narrows : SFits w (to_z v (of_z v z))
  narrows = rw (to_z-of_z wide) f

  pub narrowed : to_z w (of_z w (to_z v (of_z v z))) ≡ z
  narrowed = ap (λ (y : ℤ). to_z w (of_z w y)) (to_z-of_z wide) ∙ to_z-of_z f
