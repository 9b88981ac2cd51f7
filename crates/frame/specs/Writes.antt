-- The writer of a raw frame, of any code: what it says, and the bytes it writes.
use Rattle.std.specs.Prelude.{ℕ, List, [], ◌∷◌, leb, length}
use Rattle.wire.specs.Output.{ask, written, Written}
use Rattle.vlq.specs.Vlq.{limit}
use Rattle.types.specs.declared.Network.{Network}
use Rattle.frame.specs.Frame.{frame_bytes}

-- Is the body within 7?
unfoldable pub frame_written : Network → ℕ → List ℕ → List ℕ → ℕ → Written
frame_written network code body out at = written [] (ask 7 (leb (length body) limit) ∷ []) out at (frame_bytes network code body)
