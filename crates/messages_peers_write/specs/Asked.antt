-- What the writer of Peers asks of an output of len bytes before it stores, and what refuses a frame that has no start.
-- Only for laws, proofs and private functions: no public contract and no theorem cites what follows.
use Rattle.std.specs.Prelude.{ℕ, ◌+◌, Bool, cond, ◌&&◌, List, eqb, leb, length}
use Rattle.wire.specs.Output.{Size, Bytes, Unsized as Refused}
use Rattle.vlq.specs.Vlq.{vlq_bytes}
use Rattle.handshake.specs.Tables.{Tables, entries_of}
use Rattle.messages.specs.Value.{peers_value, body_bytes}

-- the entries of a table, as a body
abbrev pub peers_bytes : Tables → List ℕ
peers_bytes l = body_bytes (peers_value (entries_of l))

-- the count is within the cap, and there is room for all that a frame has before its entries
unfoldable pub peers_start : ℕ → ℕ → ℕ → ℕ → Bool
peers_start cap count len at = leb (at + (13 + length (vlq_bytes count))) len && leb count cap

-- it is not so: what refuses the frame after the place, given whether the count is within the cap and what is said of
-- the entries
unfoldable pub peers_refusal : Bool → Size → ℕ
peers_refusal within (Bytes n) = cond within 14 10
peers_refusal within (Refused m) = cond (eqb m 7) (cond within 7 10) m
