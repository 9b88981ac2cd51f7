-- What a writer says of an output of len bytes, by sizes (document 01, "Questions", Writers).
use Rattle.std.specs.Prelude.{ℕ, ◌+◌, cond, List, [], ◌∷◌, ◌++◌, eqb, leb}
use Rattle.wire.specs.Output.{Question, ask, asked, Written, To, Refused, Size, Bytes, Unsized}

-- what a writer of any n bytes says of an output of any len bytes: `written`, which depends on nothing else of them
abbrev pub written_for : List Question → List Question → ℕ → ℕ → ℕ → Written
written_for before after len at n = asked (before ++ (ask 12 (leb at len) ∷ (after ++ (ask 14 (leb (at + n) len) ∷ [])))) (To (at + n))

-- what a writer says of an output of len bytes, once the size is known: the question of the place comes after 16, that of the room last
unfoldable pub output_asked : ℕ → ℕ → Size → Written
output_asked len at (Bytes n) = written_for [] [] len at n
output_asked len at (Unsized m) = cond (eqb m 16) (Refused 16) (cond (leb at len) (Refused m) (Refused 12))
