-- The ids that a caller puts together from what the code gives of a body alone: the bytes at each place that the
-- reader by index gives, for each index below the given count.
use Rattle.std.specs.Prelude.{ℕ, List}
use Rattle.wire.specs.Reader.{map_answer}
use Rattle.handshake.specs.ByIndex.{by_index}
use Rattle.handshake.specs.Tables.{bytes_at}
use Rattle.messages_inventory_read.specs.Answers.{id_of}
use Rattle.messages_inventory_read.specs.Parts.{id_at}

-- the 32 bytes of the id at a place
abbrev pub id_given : List ℕ → ℕ → List ℕ
id_given body at = bytes_at body at 32

unfoldable pub ids_given : List ℕ → ℕ → List (List ℕ)
ids_given body n = by_index (id_given body) (λ k. map_answer id_of (id_at k body)) n
