-- The loop over entries keeps how many of them have a bogus address.
use Prim.Native.Nat.{ℕ, ◌+◌, suc, ◌≤◌}
use native.Mathlib.Omega.{arith}
use mathlib.Core.Bool.{Bool, true, false, cond}
use mathlib.Core.List.{List, [], ◌∷◌, ◌++◌}
use mathlib.Core.Path.{◌≡◌, refl}
use Rattle.std.specs.Int.{from_bool}
use Rattle.types.specs.declared.Network.{Network}
use Rattle.address_sanity.specs.Bogus.{bogus}
use Rattle.handshake.specs.Entry.{Entry}
use Rattle.messages.specs.Bogus.{bogus_count}

-- the bogus addresses, after one more entry
pub bogus-more : (network : Network) (l : List Entry) (e : Entry)
    → bogus_count network (l ++ (e ∷ [])) ≡ bogus_count network l + from_bool (bogus e.address network)
unfolding bogus_count
bogus-more network [] e = go (bogus e.address network)
  where
    go : (x : Bool) → cond x 1 0 ≡ 0 + from_bool x
    go true = refl
    go false = refl
bogus-more network (f ∷ l) e = go (bogus f.address network) _ _ (bogus-more network l e)
  where
    go : (x : Bool) (m n : ℕ) → m ≡ n + from_bool (bogus e.address network)
        → cond x (suc m) m ≡ cond x (suc n) n + from_bool (bogus e.address network)
    go true m n h = omega arith
    go false m n h = h

-- at most one more
pub at_most_one : (x : Bool) → from_bool x ≤ 1
at_most_one true = omega arith
at_most_one false = omega arith
