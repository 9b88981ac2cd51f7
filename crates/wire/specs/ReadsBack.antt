-- That given bytes, wherever they stand, are read to a given value and end where they end. Its laws stand in `ReadsBackLaws`.
use Rattle.std.specs.Prelude.{ℕ, ◌+◌, ◌≤◌, List, ◌≡◌, length, take, drop}
use Rattle.wire.specs.Reader.{got, Reader, Segment}

-- the bytes w stand in s from the place at on
pub record StandsAt (s : List ℕ) (at : ℕ) (w : List ℕ) : Type 0 where
  pub within : at + length w ≤ length s
  pub bytes : take (length w) (drop at s) ≡ w

-- a segment's bytes stand in s where it starts
abbrev pub Placed : List ℕ → Segment → Type 0
Placed s g = StandsAt s g.start g.bytes

-- ---- Only for laws, proofs and private functions: no public contract and no theorem cites what follows.

-- Wherever w stands, p reads it to the end of w and to the value v. `see` is the value of a reading, which holds places too.
pub record ReadsBack {A X : Type 0} (p : Reader A) (see : A → X) (w : List ℕ) (v : X) : Type 0 where
  pub reads : (s : List ℕ) (at : ℕ) → StandsAt s at w → (a : A) × (p s at ≡ got a (at + length w)) × (see a ≡ v)
