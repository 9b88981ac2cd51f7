-- Eight bytes as a word. Assumes nothing.
use Rattle.std.proofs.Common.{◌∙◌}
use Rattle.blake2b_hash.proofs.Blocks.{word-eight}
use Rattle.blake2b_hash.proofs.bytes.word_at.Goals as goal

pub returns : goal.returns
returns c = c.from_le_bytes.ensures ∙ word-eight _ _ c.requires
