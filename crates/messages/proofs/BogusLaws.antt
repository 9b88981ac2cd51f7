-- What is counted as bogus: an entry alone counts where its address is bogus, and a list counts what its parts count.
use Rattle.std.specs.Prelude.{ℕ, suc, ◌+◌, Bool, true, false, cond, List, [], ◌∷◌, ◌++◌, ◌≡◌, refl}
use Rattle.std.proofs.Common.{arith}
use Rattle.types.specs.declared.Network.{Network}
use Rattle.address_sanity.specs.Bogus.{bogus}
use Rattle.handshake.specs.Entry.{Entry}
use Rattle.messages.specs.Bogus.{bogus_count}

pub bogus-one : (network : Network) (e : Entry) → bogus_count network (e ∷ []) ≡ cond (bogus e.address network) 1 0
unfolding bogus_count
bogus-one network e = refl

-- one more, or not, before a sum
cond-sum : (b : Bool) (n m : ℕ) → cond b (suc (n + m)) (n + m) ≡ cond b (suc n) n + m
cond-sum true n m = omega arith
cond-sum false n m = refl

pub bogus_parts : (network : Network) (es fs : List Entry) → bogus_count network (es ++ fs) ≡ bogus_count network es + bogus_count network fs
unfolding bogus_count
bogus_parts network [] fs = omega arith
bogus_parts network (e ∷ es) fs =
    rw (bogus_parts network es fs) (cond-sum (bogus e.address network) (bogus_count network es) (bogus_count network fs))
