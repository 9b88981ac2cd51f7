-- `handshake_entry_ask::features_size` meets its contract. The loop has counted the bytes of the rows before k, each
-- with a length within the limit.
use Rattle.std.proofs.Common.{◌+◌, ◌-◌, ◌*◌, ◌≤◌, ◌≡◌, length}
use mathlib.Core.List.{map, flat_map}
use Rattle.vlq.specs.Vlq.{limit}
use Rattle.handshake.specs.Value.{feature_bytes}
use Rattle.handshake.specs.Tables.{rows, feature_row, own_rows, feature_from_row}
use Rattle.handshake.proofs.RowsLaws.{Passed}
use Rattle.handshake_entry_rows.specs.Row.{tables_of}
use Rattle.handshake_entry_ask.specs.LengthLaws.{body_within}
use Rattle.handshake_entry_ask.proofs.features_size.Given as goal

abbrev pub invariant-loop-k : goal.invariant-loop-k
invariant-loop-k l =
    let b = l.t.buffer.now in
    (l.m + length (flat_map feature_bytes (map (feature_from_row b) (rows (λ i. feature_row l.t.features.now (l.fn.e.first + i)) l.k (l.fn.e.count - l.k))))
    ≡ l.before + length (flat_map feature_bytes (map (feature_from_row b) (own_rows (tables_of l.t) l.fn.e))))
    × (l.m ≤ 1000 + l.k * (limit + 11)) × Passed (body_within b) (λ i. feature_row l.t.features.now (l.fn.e.first + i)) l.fn.e.count l.k
