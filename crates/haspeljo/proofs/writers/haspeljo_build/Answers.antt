-- `haspeljo::writers::haspeljo_build` meets its contract: 16 is asked first; then what the writer said is returned, and the output is as it left it.
use mathlib.Core.Path.{◌≡◌, sym, ◌∙◌}
use mir.Syntax.{w32, w64}
use mir.Val.{to_z, of_z}
use borrow.Author.Rules.{rules}
use Rattle.export_config.proofs.ConfigsLaws.{value_of, refused-of}
use Rattle.haspeljo.proofs.ExportLaws.{writer_leaves}
use Rattle.haspeljo.proofs.BuildLaws.{build-same, build-refused}
use Rattle.haspeljo.proofs.writers.haspeljo_build.Goals as goal

pub returns-in-Ok : goal.returns-in-Ok
returns-in-Ok c =
    let blocks_to_keep : to_z w32 (of_z w32 c.args.blocks_to_keep) ≡ c.args.blocks_to_keep = search rules in
    let session : to_z w64 (of_z w64 c.args.session) ≡ c.args.session = search rules in
    let from = rw (c.network_of.ensures, blocks_to_keep, session) at c.config_from.ensures in
    let value = value_of _ _ _ _ _ _ _ _ _ _ _ _ _ _ (sym from ∙ c.in-Ok.is) in
    writer_leaves _ _ (build-same c.args.kind c.args.high c.args.low (sym value.1) value.0 _ _ _ _ (c.build-w.ensures.value, c.build-w.ensures.out_after)) (c.written_result.ensures.value, c.written_result.ensures.r_after)

pub returns-in-Err : goal.returns-in-Err
returns-in-Err c =
    let from = rw c.network_of.ensures at c.config_from.ensures in
    let no_value = refused-of _ _ _ _ _ _ _ _ _ _ _ _ _ _ (sym from ∙ c.in-Err.is) in
    rw (c.number.ensures, ← no_value.1) (build-refused c.args.kind c.args.high c.args.low no_value.0 _ _ _ _)
