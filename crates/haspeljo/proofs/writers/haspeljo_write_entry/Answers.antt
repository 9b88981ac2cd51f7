-- `haspeljo::writers::haspeljo_write_entry` meets its contract: what the writer said is returned, and the output is as it left it.
use mathlib.Core.Path.{subst}
use Rattle.handshake.specs.Tables.{Tables}
use Rattle.handshake_entry_rows.specs.Row.{tables_of}
use Rattle.haspeljo.specs.Results.{WriterLeaves}
use Rattle.haspeljo.specs.Writers.{entry_writer}
use Rattle.haspeljo.proofs.ExportLaws.{writer_leaves}
use Rattle.haspeljo.proofs.writers.haspeljo_write_entry.Goals as goal

pub returns : goal.returns
returns c =
    subst
    (λ (l : Tables). WriterLeaves (entry_writer l c.args.index) c.args.at c.written_result.result c.args.r.now c.written_result.new.r c.args.out.now c.write_entry-w.new.out)
    c.new-rows.ensures
    (writer_leaves (entry_writer (tables_of c.new-rows.result) c.args.index) c.args.at (c.write_entry-w.ensures.value, c.write_entry-w.ensures.out_after) (c.written_result.ensures.value, c.written_result.ensures.r_after))
