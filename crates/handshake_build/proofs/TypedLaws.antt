-- What the type of a `Config` says of its numbers: what whoever is given one knows of it (`Is`), field by field.
use Prim.Native.Nat.{◌^◌, ◌<◌}
use mathlib.Core.List.{List}
use mir.Val.{Val}
use denote.Laws.{Is}
use Rattle.types.specs.declared.Address.{Address}
use Rattle.types.specs.declared.Address.TheVariants.{None, V4, V6}
use Rattle.types.specs.contracts.Address as address
use Rattle.handshake.specs.Value.{AddressTyped}
use Rattle.handshake_build.specs.declared.Config.{Config}
use Rattle.handshake_build.specs.contracts.Config as config

address-typed : (a : Address) (vs : List Val) → Is (address.the_field).row ((address.the_field).into a) vs → AddressTyped a
unfolding AddressTyped
address-typed None vs p = tt
address-typed (V4 ip port) vs p =
    let f = p.1.1.1.1 in
    (f.0.1, f.1.0.1)
address-typed (V6 high low port) vs p =
    let f = p.1.1.1.1 in
    (f.0.1, f.1.0.1, f.1.1.0.1)

pub config-typed : (c : Config) (vs : List Val) → Is config.the_row c vs → (c.timestamp < 2 ^ 64) × AddressTyped c.address
config-typed c vs p =
    let f = p.1.1.1.1.1 in
    (f.1.0.1, address-typed c.address _ f.0)
