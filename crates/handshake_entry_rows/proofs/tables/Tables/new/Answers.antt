-- `Tables::new` meets its contract: the elements of a slice of bytes are bytes.
use Rattle.std.proofs.Common.{arith}
use Rattle.handshake_entry_rows.specs.ValueLaws.{all_bytes}
use Rattle.handshake_entry_rows.proofs.tables.Tables.new.Goals as goal

pub invariant_of-result : goal.invariant_of-result
invariant_of-result c = record { bytes = all_bytes c.args.buffer.now (λ i. omega (arith, c.type_inv.buffer i)) }
