-- Numbers with one digit more than their neighbour, and the highest.
use Rattle.std.specs.Prelude.{[], ◌∷◌, map, ◌≡◌, refl}
use Rattle.wire_text_write.specs.Text.{ascii, decimal_in, decimal}

pub all-numbers : map decimal (0 ∷ 9 ∷ 10 ∷ 99 ∷ 100 ∷ 18446744073709551615 ∷ [])
    ≡ ascii "0" ∷ ascii "9" ∷ ascii "10" ∷ ascii "99" ∷ ascii "100" ∷ ascii "18446744073709551615" ∷ []
unfolding decimal_in decimal
all-numbers = refl
