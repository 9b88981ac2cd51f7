-- `haspeljo::writers::haspeljo_write_peers` meets its contract: what the writer said is returned, and the output is as it left it.
use Rattle.haspeljo.proofs.ExportLaws.{writer_leaves}
use Rattle.haspeljo.proofs.writers.haspeljo_write_peers.Goals as goal

pub returns : goal.returns
returns c =
    let w = rw (c.network_of.ensures, c.new-t.ensures) at c.write_peers-w.ensures in
    writer_leaves _ _ (w.value, w.out_after) (c.written_result.ensures.value, c.written_result.ensures.r_after)
