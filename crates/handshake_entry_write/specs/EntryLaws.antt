-- Laws of the writer of one entry: what is known once it accepted, and what it says.
use Rattle.std.specs.Prelude.{ℕ, ◌+◌, ◌/◌, ◌≤◌, ◌<◌, List, [], ◌∷◌, ◌≡◌, refl, length}
use Rattle.std.proofs.Math.Path.{ap}
use Rattle.std.proofs.Common.{◌∙◌}
use Rattle.wire.specs.Output.{Size, Written, To, Refused, ask, output_after, Wrote}
use Rattle.wire_output.specs.Asked.{written_for, output_asked}
use Rattle.wire_output.specs.AskedLaws.{Without16, output-sized}
use Rattle.wire_output.specs.CheckedLaws.{accepted, stored, kept}
use Rattle.handshake.specs.Value.{entry_bytes, entries_asked}
use Rattle.handshake.specs.Tables.{Tables, entry_row, tables_whole}
use Rattle.handshake.specs.Writes.{entry_at_row, row_asked, entry_written}
use Rattle.handshake_entry_ask.specs.Asked.{entry_size}
use Rattle.handshake_entry_write.specs.Ready.{Ready}
use Rattle.handshake_entry_write.specs.ReadyLaws.{row_in_table, row_ready}

-- what was said of the entry in row k, and of the output
module _ (l : Tables) (k : ℕ) (out : List ℕ) (at : ℕ) {size : Size} {r : Written} (e1 : size ≡ entry_size l k) (e2 : r ≡ output_asked (length out) at size) where
  says : r ≡ written_for (ask 16 (tables_whole l) ∷ []) (row_asked l k) (length out) at (length (entry_bytes (entry_at_row l k)))
  unfolding entry_size entries_asked Without16
  says =
      e2 ∙ ap (output_asked (length out) at) e1
      ∙ output-sized (length out) at (length (entry_bytes (entry_at_row l k))) (tables_whole l) (row_asked l k) (refl, (refl, (refl, (refl, (refl, tt)))))

  pub entry_in-table : {e : ℕ} → r ≡ To e → k < length l.entries / 12
  entry_in-table p = row_in_table l k (accepted (ask 16 (tables_whole l) ∷ []) (row_asked l k) out at (entry_bytes (entry_at_row l k)) says p).rest

  pub entry-accepted : {e : ℕ} → r ≡ To e
      → Ready l (entry_row l.entries k) × (at + length (entry_bytes (entry_at_row l k)) ≤ length out)
  entry-accepted p =
      let yes = accepted (ask 16 (tables_whole l) ∷ []) (row_asked l k) out at (entry_bytes (entry_at_row l k)) says p in
      (row_ready l k yes.rest yes.first.0, yes.room)

  pub entry_stored : {e n : ℕ} {last : List ℕ} → r ≡ To e → Wrote out at (entry_bytes (entry_at_row l k)) n last
      → (r ≡ entry_written l k out at) × (last ≡ output_after r out at (entry_bytes (entry_at_row l k)))
  unfolding entry_written
  entry_stored p w = stored (ask 16 (tables_whole l) ∷ []) (row_asked l k) out at (entry_bytes (entry_at_row l k)) says p w

  pub entry_kept : {m : ℕ} → r ≡ Refused m → (r ≡ entry_written l k out at) × (out ≡ output_after r out at (entry_bytes (entry_at_row l k)))
  unfolding entry_written
  entry_kept p = kept (ask 16 (tables_whole l) ∷ []) (row_asked l k) out at (entry_bytes (entry_at_row l k)) says p
