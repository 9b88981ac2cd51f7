-- That the bytes of an entry's reading stand at its places: what a place and a length say of the bytes s is what the reading says.
use Rattle.std.specs.Prelude.{ℕ, List}
use Rattle.wire.specs.Bytes.{Each}
use Rattle.wire.specs.ReadsBack.{Placed}
use Rattle.handshake.specs.Entry.{Entry}

-- agent, name, and each feature's body
pub record EntryPlaced (s : List ℕ) (e : Entry) : Type 0 where
  pub agent : Placed s e.agent
  pub name : Placed s e.name
  pub features : Each (λ f. Placed s f.body) e.features
