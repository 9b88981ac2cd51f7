-- A hash that is finished with the whole data right after its start. Assumes nothing.
use Rattle.std.proofs.Common.{◌≡◌, ℕ, ◌^◌, ◌<◌, List, length, ap, ◌∙◌, lt_of_lt_of_le, arith, lit≤}
use Rattle.blake2b_hash.specs.declared.Hash.{Hash}
use Rattle.blake2b.specs.Blake2b.{ll_bound, blake2b}
use Rattle.blake2b_hash.specs.Running.{started, finished}
use Rattle.blake2b_hash.specs.RunningLaws.{finished_started}
use Rattle.blake2b_hash.proofs.digest.Goals as goal

short : (n : ℕ) → n < 2 ^ 64 → n < ll_bound
unfolding ll_bound
short n l = lt_of_lt_of_le l (lit≤ tt)

law : (x : Hash) (s r : List ℕ) → length s < 2 ^ 64 → x ≡ started 32 → r ≡ finished 32 x s → r ≡ blake2b 32 s
law x s r l ex er = er ∙ ap (λ (y : Hash). finished 32 y s) ex ∙ finished_started 32 s (short (length s) l)

pub returns : goal.returns
returns c = law _ _ _ (omega arith) c.start.ensures c.finish.ensures
