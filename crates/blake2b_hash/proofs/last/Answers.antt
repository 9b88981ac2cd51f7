-- The rest of the data in a padded block, counted and flagged as the last. Assumes nothing.
use Rattle.blake2b_hash.proofs.Counter.{ended-words}
use Rattle.blake2b_hash.proofs.last.Goals as goal

pub returns : goal.returns
returns c =
    ended-words c.args.x _ c.args.i _ _ _ _ _ c.wrapping_add_u64-t0.ensures.value c.high-t1.ensures
    c.padded-b.ensures c.load-m.ensures c.compress.ensures
