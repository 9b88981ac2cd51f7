-- `haspeljo::writers::haspeljo_write_handshake` meets its contract: what the writer said is returned, and the output is as it left it.
use mathlib.Core.Path.{subst}
use Rattle.handshake.specs.Tables.{Tables}
use Rattle.handshake_entry_rows.specs.Row.{tables_of}
use Rattle.haspeljo.specs.Results.{WriterLeaves}
use Rattle.haspeljo.specs.Writers.{handshake_writer}
use Rattle.haspeljo.proofs.ExportLaws.{writer_leaves}
use Rattle.haspeljo.proofs.writers.haspeljo_write_handshake.Goals as goal

pub returns : goal.returns
returns c =
    subst
    (λ (l : Tables). WriterLeaves (handshake_writer c.args.timestamp l c.args.index) c.args.at c.written_result.result c.args.r.now c.written_result.new.r c.args.out.now c.write_handshake-w.new.out)
    c.new-t.ensures
    (writer_leaves (handshake_writer c.args.timestamp (tables_of c.new-t.result) c.args.index) c.args.at (c.write_handshake-w.ensures.value, c.write_handshake-w.ensures.out_after) (c.written_result.ensures.value, c.written_result.ensures.r_after))
