-- Two calls for the halves, each with four words. Assumes nothing.
use Rattle.std.proofs.Common.{◌∙◌, arith}
use Rattle.blake2b_compress.specs.Parts.{half_columns}
use Rattle.blake2b_compress.proofs.Chain.{words-halves}
use Rattle.blake2b_compress.proofs.PartsLaws.{columns-halves}
use Rattle.blake2b_compress.proofs.columns.Goals as goal

pub returns : goal.returns
returns c =
    words-halves (λ v a b c d. half_columns v a b c d 32 24) (λ v a b c d. half_columns v a b c d 16 63)
    c.select-x0.ensures c.select-x2.ensures
    c.select-x4.ensures c.select-x6.ensures c.half_columns-v.ensures
    c.select-x1.ensures c.select-x3.ensures
    c.select-x5.ensures c.select-x7.ensures c.half_columns.ensures
    ∙ columns-halves _ _ _ (omega arith)
