-- Zigzag of small numbers and at the ends of 32 and 64 bits, computed, beside the cases of document 01 (crate `edges`).
use Rattle.std.specs.Prelude.{ℕ, ◌-◌, ◌^◌, List, [], ◌∷◌, map, ◌≡◌, refl, ℤ, pos, neg_ℤ}
use Rattle.vlq_zigzag.specs.Zigzag.{zigzag_encode, zigzag_decode}

pub record Case : Type 0 where
  pub number : ℤ
  pub code : ℕ

unfoldable pub cases : List Case
cases =
    record { number = pos 0; code = 0 }
    ∷ record { number = neg_ℤ (pos 2); code = 3 }
    ∷ record { number = pos 2; code = 4 }
    ∷ record { number = pos (2 ^ 31 - 1); code = 2 ^ 32 - 2 }
    ∷ record { number = neg_ℤ (pos (2 ^ 31)); code = 2 ^ 32 - 1 }
    ∷ record { number = pos (2 ^ 63 - 1); code = 2 ^ 64 - 2 }
    ∷ []

pub cases-encode : map (λ (c : Case). zigzag_encode c.number) cases ≡ map (λ (c : Case). c.code) cases
unfolding cases zigzag_encode
cases-encode = refl

pub cases-decode : map (λ (c : Case). zigzag_decode c.code) cases ≡ map (λ (c : Case). c.number) cases
unfolding cases zigzag_decode
cases-decode = refl
