-- Four rounds, each of its columns and its diagonals. Assumes nothing.
use Rattle.blake2b_compress.specs.Parts.{four}
use Rattle.blake2b_compress.proofs.Chain.{rounds-four}
use Rattle.blake2b_compress.proofs.four_rounds.Goals as goal

pub returns : goal.returns
unfolding four
returns g c =
    rounds-four _ _ _ _ _ _ c.columns-v.ensures c.diagonals-v.ensures
    c.columns-v-2.ensures c.diagonals-v-2.ensures c.columns-v-3.ensures c.diagonals-v-3.ensures
    c.columns-v-4.ensures c.diagonals.ensures
