-- A signed number of w bits by one bound, as the logic has it of an i32 and an i64: `mag n` is k for k and for -(k + 1).
use Rattle.std.specs.Prelude.{ℕ, zero, suc, ◌-◌, ◌^◌, ◌<◌, ◌↔◌, ◌≡◌, ℤ, pos, negsuc, neg_ℤ, ◌-ℤ◌, ◌≤ℤ◌, ◌<ℤ◌}
use Rattle.std.proofs.Common.{arith, le-ltb, leb→le, le→leb, ltb→lt, lt→ltb}
use Rattle.std.specs.Int.Signed.{mag}
use Rattle.std.specs.Int.{Width}
use mir.Val.{SFits, bits, hbits}
use mir.ValLaws.{bits-suc}
use Rattle.vlq_zigzag.specs.Width.{Signed}

above_lowest : (h : ℕ) (n : ℤ) → mag n < h → neg_ℤ (pos h) ≤ℤ n
above_lowest zero n l = absurd (omega arith)
above_lowest (suc h) (pos k) l = record { le = tt }
above_lowest (suc h) (negsuc k) l = record { le = le→leb k h (omega arith) }

below-highest : (h : ℕ) (n : ℤ) → mag n < h → n <ℤ pos h
below-highest h (pos k) l = record { lt = lt→ltb k h l }
below-highest h (negsuc k) l = record { lt = tt }

mag_below : (h : ℕ) (n : ℤ) → neg_ℤ (pos h) ≤ℤ n → n <ℤ pos h → mag n < h
mag_below h (pos k) l g = ltb→lt k h g.lt
mag_below zero (negsuc k) l g = absurd l.le
mag_below (suc h) (negsuc k) l g = omega (arith, leb→le k h l.le)

pub signed_mag : (w : ℕ) (n : ℤ) → Signed w n → mag n < 2 ^ (w - 1)
signed_mag w n s = mag_below (2 ^ (w - 1)) n s.lowest s.highest

pub mag_signed : (w : ℕ) (n : ℤ) → mag n < 2 ^ (w - 1) → Signed w n
mag_signed w n l = record { lowest = above_lowest (2 ^ (w - 1)) n l; highest = below-highest (2 ^ (w - 1)) n l }

half : (w : Width) → bits w - 1 ≡ hbits w
half w = omega (arith, bits-suc w)

-- what the logic knows of every i8 to i64
pub fits_signed : (w : Width) (n : ℤ) → SFits w n ↔ Signed (bits w) n
fits_signed w n = ((λ f. mag_signed (bits w) n (rw (half w) f.sfits)), (λ s. record { sfits = rw (half w) at (signed_mag (bits w) n s) }))

-- -1 - n for n below 0
pub minus_below : (k : ℕ) → negsuc 0 -ℤ negsuc k ≡ pos k
minus_below k = let e : suc k - 1 ≡ k = omega arith in rw (le-ltb (suc k) 1 (omega arith), e)
