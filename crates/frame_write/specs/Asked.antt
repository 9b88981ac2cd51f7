-- What a writer of a frame says by sizes alone: the length of its body, the place, and the length of the output.
use Rattle.std.specs.Prelude.{ℕ, zero, suc, ◌+◌, [], ◌∷◌, leb}
use Rattle.wire.specs.Output.{ask, Written}
use Rattle.vlq.specs.Vlq.{limit}
use Rattle.wire_output.specs.Asked.{written_for}

-- the length of a frame with a body of n bytes is 9, or 13 plus the body
unfoldable pub frame_length : ℕ → ℕ
frame_length zero = 9
frame_length (suc n) = 13 + suc n

-- what a writer of a frame with a body of n bytes says of an output of len bytes; is the body within 7?
unfoldable pub frame_written_for : ℕ → ℕ → ℕ → Written
frame_written_for len at n = written_for [] (ask 7 (leb n limit) ∷ []) len at (frame_length n)
