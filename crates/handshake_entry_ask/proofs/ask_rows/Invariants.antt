-- `handshake_entry_ask::ask_rows` meets its contract. The loop has asked the rows before k.
use Rattle.wire.specs.Output.{size_said}
use Rattle.handshake_entry_rows.specs.Row.{tables_of}
use Rattle.handshake_entry_ask.specs.AskedLaws.{SizeSoFar}
use Rattle.handshake_entry_ask.proofs.ask_rows.Given as goal

abbrev pub invariant-loop-k : goal.invariant-loop-k
invariant-loop-k l = SizeSoFar (tables_of l.t) l.k (size_said l.size)
