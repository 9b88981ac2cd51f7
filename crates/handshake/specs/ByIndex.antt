-- A list from what a reader by index answers: what a caller makes of the answers for the indexes below the given count.
use Rattle.std.specs.Prelude.{ℕ}
use mathlib.Core.List.{List, [], ◌∷◌, flat_map}
use Rattle.wire.specs.Reader.{Answer, got, refused}
use Rattle.handshake.specs.Tables.{rows}

-- what f makes of an answer; a refusal gives nothing
abbrev pub made_of : {A B : Type 0} → (A → B) → Answer A → List B
made_of f (got a next) = f a ∷ []
made_of f (refused m) = []

-- what f makes of the answers for the indexes below n
unfoldable pub by_index : {A B : Type 0} → (A → B) → (ℕ → Answer A) → ℕ → List B
by_index f answer n = flat_map (made_of f) (rows answer 0 n)
