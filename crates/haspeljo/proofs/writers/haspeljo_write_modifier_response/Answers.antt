-- `haspeljo::writers::haspeljo_write_modifier_response` meets its contract: what the writer said is returned, and the output is as it left it.
use Rattle.haspeljo.proofs.ExportLaws.{writer_leaves}
use Rattle.haspeljo.proofs.writers.haspeljo_write_modifier_response.Goals as goal

pub returns : goal.returns
returns c = writer_leaves _ _ (rw c.network_of.ensures at c.write_modifier_response-w.ensures.value, rw c.network_of.ensures at c.write_modifier_response-w.ensures.out_after) (c.written_result.ensures.value, c.written_result.ensures.r_after)
