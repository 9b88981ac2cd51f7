-- A handshake whose write was accepted is read back: every question held, so its value is one that reads back.
use Rattle.std.specs.Prelude.{ℕ, ◌^◌, ◌<◌, true, List, [], ◌∷◌, ◌≡◌}
use Rattle.wire.specs.Bytes.{every, Each, none, more}
use Rattle.wire.proofs.BytesLaws.{is_byte}
use Rattle.wire.specs.Output.{Question, To}
use Rattle.wire.proofs.OutputLaws.{AllHold, written-accepted}
use Rattle.wire.specs.ReadsBack.{ReadsBack}
use Rattle.handshake.specs.Entry.{handshake}
use Rattle.handshake.specs.Value.{AddressTyped, handshake_value, handshake_bytes}
use Rattle.handshake.proofs.ValueLaws.{reads-handshake, Holds, asked_writable_one}
use Rattle.handshake.specs.Tables.{Tables, entry_row}
use Rattle.handshake.proofs.TablesLaws.{row_numbers_lem, row_inside_lem, row-address}
use Rattle.handshake.specs.Writes.{entry_at_row, handshake_at_row, handshake_written, Config, built, built_written}

pub hold_each : (qs : List Question) → AllHold qs → Each Holds qs
hold_each [] h = none
hold_each (q ∷ qs) h = more h.0 (hold_each qs h.1)

pub handshake-reads-back : (timestamp : ℕ) (l : Tables) (k : ℕ) (out : List ℕ) (at end : ℕ) → timestamp < 2 ^ 64 → every is_byte l.buffer ≡ true
    → handshake_written timestamp l k out at ≡ To end
    → ReadsBack handshake handshake_value (handshake_bytes (handshake_at_row timestamp l k)) (handshake_at_row timestamp l k)
unfolding handshake_written
handshake-reads-back timestamp l k out at end small typed q =
    let a = written-accepted _ _ out at _ end q in
    let whole = a.first.0 in
    let inside = a.rest.0 in
    let address = row-address l (entry_row l.entries k) (row_numbers_lem l whole k inside) (row_inside_lem l whole k inside) typed in
    reads-handshake (handshake_at_row timestamp l k) small (asked_writable_one (entry_at_row l k) (hold_each _ a.rest.1) address)

pub built-reads-back : (c : Config) (out : List ℕ) (at end : ℕ) → c.timestamp < 2 ^ 64 → AddressTyped c.address → built_written c out at ≡ To end
    → ReadsBack handshake handshake_value (handshake_bytes (built c)) (built c)
unfolding built_written built
built-reads-back c out at end small typed q =
    let a = written-accepted _ _ out at _ end q in
    reads-handshake (built c) small (asked_writable_one (built c).entry (hold_each _ a.rest) typed)
