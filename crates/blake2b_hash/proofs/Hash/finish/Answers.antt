-- The blocks before the last, the last, and the first 32 bytes of the state. Assumes nothing.
use Rattle.std.proofs.Common.{◌≡◌, ℕ, ◌-◌, List, length, take, arith}
use Rattle.blake2b_hash.specs.declared.Hash.{Hash}
use Rattle.blake2b.specs.Blake2b.{dd, unwords}
use Rattle.blake2b.proofs.Blake2bLaws.{dd-before}
use Rattle.blake2b_hash.specs.Running.{absorbed, ended, finished}
use Rattle.blake2b_hash.proofs.Hash.finish.Goals as goal

law : (x y : Hash) (s h r : List ℕ) (n : ℕ) → n ≡ dd (length s) - 1 → y ≡ absorbed x s n → h ≡ ended y s n → r ≡ take 32 (unwords h)
    → r ≡ finished 32 x s
unfolding finished
law x y s h r n en ey eh er = rw (er, eh, ey, en)

pub absorb-x-requires : goal.absorb-x-requires
absorb-x-requires c = omega (arith, dd-before (length c.args.rest.now))

pub last-h-requires : goal.last-h-requires
last-h-requires c =
    let n = length c.args.rest.now in
    (omega (arith, dd-before n), omega (arith, dd-before n))

pub returns : goal.returns
returns c =
    law _ _ _ _ _ _ c.before_last-n.ensures c.absorb-x.ensures
    c.last-h.ensures c.unload.ensures
