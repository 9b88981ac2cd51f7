-- F on a copy of the state. Assumes nothing.
use Rattle.blake2b_compress.proofs.compress.Goals as goal

pub returns : goal.returns
returns c = c.compress_at.ensures
