-- What the writer of messages of other codes says of an output of len bytes, by sizes: the questions of
-- `message_written` that are not answered "yes" by what the message is.
-- Only for laws, proofs and private functions: no public contract and no theorem cites what follows.
use Rattle.std.specs.Prelude.{ℕ, [], ◌∷◌, leb}
use Rattle.wire.specs.Output.{ask, Written}
use Rattle.vlq.specs.Vlq.{limit}
use Rattle.wire_output.specs.Asked.{written_for}
use Rattle.frame_write.specs.Asked.{frame_length}
use Rattle.messages.specs.Value.{unknown_code}

-- a code and a body of n bytes
unfoldable pub unknown_written_for : ℕ → ℕ → ℕ → ℕ → Written
unknown_written_for code len at n = written_for [] (ask 7 (leb n limit) ∷ ask 15 (unknown_code code) ∷ []) len at (frame_length n)
