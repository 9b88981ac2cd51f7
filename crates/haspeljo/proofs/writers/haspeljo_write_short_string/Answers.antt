-- `haspeljo::writers::haspeljo_write_short_string` meets its contract: what the writer said is returned, and the output is as it left it.
use Rattle.haspeljo.proofs.ExportLaws.{writer_leaves}
use Rattle.haspeljo.proofs.writers.haspeljo_write_short_string.Goals as goal

pub returns : goal.returns
returns c = writer_leaves _ _ (c.write_short_string-w.ensures.value, c.write_short_string-w.ensures.out_after) (c.written_result.ensures.value, c.written_result.ensures.r_after)
