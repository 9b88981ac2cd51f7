-- What the writers of ModifierRequest and Inv say of an output of len bytes, by sizes: the questions of
-- `message_written` that are not answered "yes" by what the message is.
-- Only for laws, proofs and private functions: no public contract and no theorem cites what follows.
use Rattle.std.specs.Prelude.{ℕ, ◌+◌, Bool, List, [], ◌∷◌, leb, length}
use Rattle.wire.specs.Bytes.{every}
use Rattle.wire.specs.Output.{ask, Written}
use Rattle.vlq.specs.Vlq.{limit}
use Rattle.wire_output.specs.Asked.{written_for}
use Rattle.frame_write.specs.Asked.{frame_length}
use Rattle.messages.specs.Message.{max_inv_objects}
use Rattle.messages.specs.Value.{ids_bytes}
use Rattle.messages.specs.Writes.{id_places, ids_of}

-- 12: is each id inside a buffer of len bytes?
abbrev pub ids_inside : List ℕ → ℕ → Bool
ids_inside ids len = every (λ at. leb (at + 32) len) (id_places ids)

-- a type byte, a table of ids and the buffer
unfoldable pub ids_written_for : ℕ → List ℕ → List ℕ → ℕ → ℕ → Written
ids_written_for type ids buffer len at =
    written_for []
    (ask 12 (ids_inside ids (length buffer))
    ∷ ask 10 (leb (length ids) max_inv_objects)
    ∷ ask 7 (leb (length (ids_bytes type (ids_of ids buffer))) limit)
    ∷ [])
    len at (frame_length (length (ids_bytes type (ids_of ids buffer))))
