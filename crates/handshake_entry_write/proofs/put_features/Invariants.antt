-- `handshake_entry_write::put_features` meets its contract. The loop has stored the rows before k; the rest is still to be stored.
use Rattle.std.proofs.Common.{◌+◌}
use Rattle.handshake.specs.Value.{feature_bytes}
use Rattle.handshake.specs.Tables.{feature_row, feature_from_row, feature_numbers}
use Rattle.handshake.proofs.PuttingLaws.{Putting}
use Rattle.handshake_entry_write.proofs.put_features.Given as goal

abbrev pub invariant-loop-k : goal.invariant-loop-k
invariant-loop-k l = Putting feature_bytes (feature_from_row l.t.buffer.now) (λ i. feature_row l.t.features.now (l.first + i)) feature_numbers l.k-end l.initial.out l.at l.out l.o l.k
