-- The same questions asked of two parts of a value. Of two refusals the one whose question comes first counts.
-- Only for laws, proofs and private functions: no public contract and no theorem cites what follows.
use Rattle.std.specs.Prelude.{ℕ, suc, ◌+◌, Bool, true, false, cond, ◌&&◌, List, [], ◌∷◌, map, eqb, ltb}
use Rattle.wire.specs.Output.{Question, ask, Size, Bytes, Unsized as Refused}

-- where a number stands in a list; its length if it doesn't
unfoldable pub position : List ℕ → ℕ → ℕ
position [] p = 0
position (n ∷ ns) p = cond (eqb p n) 0 (suc (position ns p))

-- of two numbers the one that comes first in a list
unfoldable pub earlier : List ℕ → ℕ → ℕ → ℕ
earlier ns p q = cond (ltb (position ns q) (position ns p)) q p

-- the size of two parts together, given the numbers of the questions in their order
unfoldable pub together : List ℕ → Size → Size → Size
together ns (Bytes m) (Bytes n) = Bytes (m + n)
together ns (Bytes m) (Refused q) = Refused q
together ns (Refused p) (Bytes n) = Refused p
together ns (Refused p) (Refused q) = Refused (earlier ns p q)

-- a question asked of both parts
pub record Twice : Type 0 where
  pub number : ℕ
  pub one : Bool
  pub other : Bool

abbrev pub twice : ℕ → Bool → Bool → Twice
twice n x y = record { number = n; one = x; other = y }

abbrev pub numbers : List Twice → List ℕ
numbers ts = map (λ t. t.number) ts

abbrev pub of_one : List Twice → List Question
of_one ts = map (λ t. ask t.number t.one) ts

abbrev pub of_other : List Twice → List Question
of_other ts = map (λ t. ask t.number t.other) ts

abbrev pub of_both : List Twice → List Question
of_both ts = map (λ t. ask t.number (t.one && t.other)) ts

-- is n none of the numbers, and is each number there once?
unfoldable pub fresh : ℕ → List ℕ → Bool
fresh n [] = true
fresh n (p ∷ ns) = cond (eqb p n) false (fresh n ns)

unfoldable pub distinct : List ℕ → Bool
distinct [] = true
distinct (n ∷ ns) = fresh n ns && distinct ns
