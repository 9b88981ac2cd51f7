-- Cases of the order of versions, beside the least one that a handshake may have, and of the conversion of places, one
-- lemma for each table.
use Rattle.std.specs.Prelude.{Result, Ok, Err, ℕ, ◌-◌, ◌^◌, ◌≡◌, refl, List, [], ◌∷◌, map, Bool, true, false}
use Rattle.types.specs.declared.Version.{Version}
use Rattle.types.specs.declared.StreamPlace.{StreamPlace}
use Rattle.wire.specs.declared.Refusal.{Refusal}
use Rattle.wire.specs.declared.Refusal.TheVariants.{Outside}
use Rattle.types.specs.Order.{then_by, below, eip37_min}
use Rattle.types.specs.Places.{located}

pub record VersionCase : Type 0 where
  pub version : Version
  pub below_min : Bool

unfoldable pub versions : List VersionCase
versions =
    record { version = record { major = 4; minor = 0; patch = 99 }; below_min = true }
    ∷ record { version = record { major = 4; minor = 0; patch = 100 }; below_min = false }
    ∷ record { version = record { major = 3; minor = 255; patch = 255 }; below_min = true }
    ∷ record { version = record { major = 4; minor = 1; patch = 0 }; below_min = false }
    ∷ record { version = record { major = 5; minor = 0; patch = 0 }; below_min = false }
    ∷ []

pub version-cases : map (λ (c : VersionCase). below c.version eip37_min) versions ≡ map (λ (c : VersionCase). c.below_min) versions
unfolding versions below then_by
version-cases = refl

-- a body's start and length, and a place in it
pub record PlaceCase : Type 0 where
  pub start : ℕ
  pub length : ℕ
  pub place : ℕ
  pub answer : Result StreamPlace Refusal

unfoldable pub places : List PlaceCase
places =
    record { start = 7; length = 3; place = 0; answer = Ok (record { 0 = 7 }) }
    ∷ record { start = 7; length = 3; place = 3; answer = Ok (record { 0 = 10 }) }
    ∷ record { start = 7; length = 3; place = 4; answer = Err Outside }
    ∷ record { start = 2 ^ 64 - 1; length = 0; place = 0; answer = Ok (record { 0 = 2 ^ 64 - 1 }) }
    ∷ record { start = 2 ^ 64 - 1; length = 1; place = 0; answer = Err Outside }
    ∷ []

pub place-cases : map (λ (c : PlaceCase). located (record { 0 = c.start }) c.length (record { 0 = c.place })) places
    ≡ map (λ (c : PlaceCase). c.answer) places
unfolding places located
place-cases = refl
