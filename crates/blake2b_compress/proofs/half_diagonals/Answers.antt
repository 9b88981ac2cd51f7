-- The three passes of a half in a row. Assumes nothing.
use Rattle.std.proofs.Common.{◌∙◌}
use Rattle.blake2b_compress.specs.Parts.{half_diagonals}
use Rattle.blake2b_compress.proofs.half_diagonals.Goals as goal

pub returns : goal.returns
unfolding half_diagonals
returns c =
    c.half_end.ensures
    ∙ rw (c.half_end-v-3.ensures, c.half_end-v-2.ensures, c.half_end-v.ensures, c.half_start-v-4.ensures, c.half_start-v-3.ensures, c.half_start-v-2.ensures, c.half_start-v.ensures, c.add_words-v.ensures)
