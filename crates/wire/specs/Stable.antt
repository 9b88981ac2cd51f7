-- The cut law of a reader: what its answer over the first k bytes is, beside its answer over all of them. Its laws stand in `StableLaws`.
-- Only for laws, proofs and private functions: no public contract and no theorem cites what follows.
use Rattle.std.specs.Prelude.{ℕ, ◌+◌, ◌≤◌, ◌<◌, Bool, List, ◌≡◌, T, length, take}
use Rattle.wire.specs.Reader.{Answer, got, refused, Reader}

-- an answer that the first k bytes don't hold: it ends past them, or is a refusal
abbrev pub Beyond : {A : Type 0} → ℕ → Answer A → Type 0
Beyond k (got a e) = k < e
Beyond k (refused m) = Unit {0}

-- `CutTo is_cut k r w`: w is what may be answered over the first k bytes where r is the answer over all.
-- An item that ends by k stays; a refusal stays; or w is a refusal that counts as a cut, and the first k bytes don't hold r.
pub data CutTo {A : Type 0} (is_cut : ℕ → Bool) (k : ℕ) : Answer A → Answer A → Type 0 where
  kept : {a : A} {e : ℕ} → e ≤ k → CutTo is_cut k (got a e) (got a e)
  own : {m : ℕ} → CutTo is_cut k (refused m) (refused m)
  short : {r : Answer A} {m : ℕ} → Beyond k r → T (is_cut m) → CutTo is_cut k r (refused m)

pub record Stable {A : Type 0} (is_cut : ℕ → Bool) (p : Reader A) : Type 0 where
  -- a reader doesn't go back
  pub moves : (s : List ℕ) (at : ℕ) (a : A) (e : ℕ) → at ≤ length s → p s at ≡ got a e → at ≤ e
  pub cut : (s : List ℕ) (at k : ℕ) → at ≤ k → k ≤ length s → CutTo is_cut k (p s at) (p (take k s) at)

-- a reader that takes n bytes at least
pub record AtLeast {A : Type 0} (n : ℕ) (p : Reader A) : Type 0 where
  pub moves : (s : List ℕ) (at : ℕ) (a : A) (e : ℕ) → at ≤ length s → p s at ≡ got a e → at + n ≤ e

-- a value read off the bytes from a place on, n of them, that no other byte changes
pub record Local {A : Type 0} (n : ℕ) (v : List ℕ → ℕ → A) : Type 0 where
  pub same : (s : List ℕ) (at k : ℕ) → at + n ≤ k → k ≤ length s → v (take k s) at ≡ v s at
