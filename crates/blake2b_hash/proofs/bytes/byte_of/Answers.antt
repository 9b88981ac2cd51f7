-- A shift and a remainder are the word's byte. Assumes nothing.
use Rattle.std.proofs.Common.{sym}
use Rattle.blake2b_hash.proofs.Blocks.{bytes_at_lem}
use Rattle.blake2b_hash.proofs.bytes.byte_of.Goals as goal

pub returns : goal.returns
returns c = sym (bytes_at_lem 8 _ _ c.requires)
