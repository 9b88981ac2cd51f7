-- `handshake_entry_write::put_features` meets its contract. The loop has stored the rows before k; the rest is still to be stored.
use Rattle.std.proofs.Common.{arith, ◌+◌}
use Rattle.handshake.specs.Tables.{feature_row}
use Rattle.handshake.proofs.RowsLaws.{rows-from}
use Rattle.handshake.proofs.PuttingLaws.{putting_start, putting_passed, putting_room, putting_turn, putting_end}
use Rattle.handshake_entry_rows.specs.ValueLaws.{part-inside}
use Rattle.handshake_entry_write.proofs.put_features.Goals as goal

pub loop-k-init : goal.loop-k-init
loop-k-init c =
    let e = rows-from (feature_row c.args.t.features.now) c.args.e.first c.args.e.count in
    putting_start _ _ _ _ _ _ _ (rw e c.requires.count_value.0) (rw e c.requires.count_in_bounds_2)

pub put_feature-o-requires : goal.put_feature-o-requires
put_feature-o-requires c =
    let within = part-inside c.args.t.buffer.now c.args.t.features.now c.args.e.first c.args.e.count c.loop-k.k c.requires.count_value.1 (omega arith) in
    record { f_value = (putting_passed c.loop-k.invariant (omega arith), within); f_in_bounds = putting_room c.loop-k.invariant (omega arith) }

pub loop-k-preserved : goal.loop-k-preserved
loop-k-preserved c = putting_turn c.loop-k.invariant (omega arith) c.put_feature-o.ensures

pub returns : goal.returns
returns c = rw (← rows-from (feature_row c.args.t.features.now) c.args.e.first c.args.e.count) (putting_end c.loop-k.invariant (omega arith))
