-- Where an entry stands behind a timestamp.
-- Only for laws, proofs and private functions: no public contract and no theorem cites what follows.
use Rattle.std.specs.Prelude.{ℕ, ◌+◌, cond, leb}

-- after v bytes from a place on in an output of len bytes; without room for them, its end, or the place itself if it
-- is outside
unfoldable pub behind : ℕ → ℕ → ℕ → ℕ
behind len at v = cond (leb (at + v) len) (at + v) (cond (leb at len) len at)
