-- That the bytes of each item of a session stand at its places.
use Prim.Native.Nat.{ℕ}
use Rattle.std.specs.Prelude.{List}
use Rattle.wire.specs.Bytes.{Each}
use Rattle.types.specs.declared.Network.{Network}
use Rattle.walk.specs.Session.{session_reading}
use Rattle.walk.proofs.SessionLaws.{session_readers}
use Rattle.walk.specs.Places.{FieldsPlaced}
use Rattle.walk.proofs.PlacesLaws.{reading-each, fields_read, fields_placed}

module _ (network : Network) (cap : ℕ) (s : List ℕ) where
  pub items-placed : Each (λ i. FieldsPlaced s i.end i.holds.fields) (session_reading network cap s).items
  unfolding session_reading
  items-placed =
      reading-each (session_readers network cap) s (λ i. FieldsPlaced s i.end i.holds.fields)
      (λ at end c q. fields_placed network cap s (fields_read network cap s at end c q))
