-- Laws of the writer of all entries: what it says, and what is known once it accepted.
use Rattle.std.specs.Prelude.{ℕ, ◌+◌, ◌/◌, ◌≤◌, ◌<◌, ◌≡◌, refl, length}
use mathlib.Core.List.{List, [], ◌∷◌, flat_map}
use Rattle.std.proofs.Math.Path.{ap}
use Rattle.std.proofs.Common.{◌∙◌}
use Rattle.wire.specs.Output.{Size, Written, To, Refused, ask, output_after, Wrote}
use Rattle.wire_output.specs.Asked.{written_for, output_asked}
use Rattle.wire_output.specs.AskedLaws.{Without16, output-sized}
use Rattle.wire_output.specs.CheckedLaws.{accepted, stored, kept}
use Rattle.handshake.specs.Value.{entry_bytes, entries_asked}
use Rattle.handshake.specs.Tables.{Tables, entry_row, entries_of, tables_whole}
use Rattle.handshake_entry_ask.specs.Asked.{rows_asked, entries_size}
use Rattle.handshake_entry_write.specs.Ready.{Ready, EntriesReady}
use Rattle.handshake_entry_write.specs.ReadyLaws.{row_ready, each-row_asked}
use Rattle.handshake_entry_write.specs.Rows.{rows_written}

-- each row can be stored
pub each-row_ready : (l : Tables) (k : ℕ) → k < length l.entries / 12 → EntriesReady l → Ready l (entry_row l.entries k)
each-row_ready l k h all = row_ready l k (each-row_asked l k h all.inside all.asked) all.whole

-- what was said of the entries, and of the output
module _ (l : Tables) (before : ℕ) (out : List ℕ) (at : ℕ) {size : Size} {r : Written} (e1 : size ≡ entries_size l before)
    (e2 : r ≡ output_asked (length out) at size)
  where
    says : r ≡ written_for (ask 16 (tables_whole l) ∷ []) (rows_asked l before) (length out) at (length (flat_map entry_bytes (entries_of l)))
    unfolding entries_size entries_asked Without16
    says =
        e2 ∙ ap (output_asked (length out) at) e1
        ∙ output-sized (length out) at (length (flat_map entry_bytes (entries_of l))) (tables_whole l) (rows_asked l before)
        (refl, (refl, (refl, (refl, (refl, (refl, tt))))))

    pub rows-accepted : {e : ℕ} → r ≡ To e → EntriesReady l × (at + length (flat_map entry_bytes (entries_of l)) ≤ length out)
    unfolding entries_asked
    rows-accepted p =
        let h = accepted (ask 16 (tables_whole l) ∷ []) (rows_asked l before) out at (flat_map entry_bytes (entries_of l)) says p in
        let q = h.rest.1 in
        (record { whole = h.first.0; inside = h.rest.0; asked = (q.0, (q.1.0, (q.1.1.0, (q.1.1.1.0, tt)))) }, h.room)

    pub rows_stored : {e n : ℕ} {last : List ℕ} → r ≡ To e → Wrote out at (flat_map entry_bytes (entries_of l)) n last
        → (r ≡ rows_written l before out at) × (last ≡ output_after r out at (flat_map entry_bytes (entries_of l)))
    unfolding rows_written
    rows_stored p w = stored (ask 16 (tables_whole l) ∷ []) (rows_asked l before) out at (flat_map entry_bytes (entries_of l)) says p w

    pub rows-kept : {m : ℕ} → r ≡ Refused m → (r ≡ rows_written l before out at) × (out ≡ output_after r out at (flat_map entry_bytes (entries_of l)))
    unfolding rows_written
    rows-kept p = kept (ask 16 (tables_whole l) ∷ []) (rows_asked l before) out at (flat_map entry_bytes (entries_of l)) says p
