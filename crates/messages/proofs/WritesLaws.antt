-- A message whose write was accepted is read back: every question held, so its body is within the limit, its ids have 32 bytes and its addresses have the
-- numbers of their type. And the cap is asked of Peers alone.
use Rattle.std.specs.Prelude.{ℕ, ◌≤◌, true, List, map, ◌≡◌, refl, length}
use Rattle.std.proofs.Common.{leb-true}
use Rattle.wire.specs.Bytes.{every, Each, none, more}
use Rattle.wire.proofs.BytesLaws.{and-true, every-each, each_both, each-append_right, each_first, each-rest, is_byte}
use Rattle.wire.proofs.OutputLaws.{written-accepted}
use Rattle.wire.specs.Output.{To}
use Rattle.vlq.specs.Vlq.{limit}
use Rattle.types.specs.declared.Network.{Network}
use Rattle.handshake.specs.Value.{AddressTyped, EntryValue, entries_asked}
use Rattle.handshake.proofs.ValueLaws.{Holds}
use Rattle.handshake.specs.Tables.{Tables, entry_rows, bytes_at, entry_from_row, entries_of, tables_whole, entry_numbers, inside, entry_inside}
use Rattle.handshake.proofs.TablesLaws.{length-bytes_at, whole-entries, row-address}
use Rattle.handshake.proofs.WritesLaws.{hold_each}
use Rattle.messages.proofs.MessageLaws.{ids_in, WritableMessage, ReadAs, reads-message}
use Rattle.messages.specs.Value as Values
use Rattle.messages.specs.Value.{PayloadValue, MessageValue, body_bytes, count_within, message_asked}
use Rattle.messages.specs.Writes.{id_places, ids_of, payload_rows, payload_from_row, payload_inside, MessageWrite, write_get_peers, write_peers, write_modifier_request, write_modifier_response, write_inv, write_sync_info, write_unknown, value_of, message_whole, message_inside, message_written}

-- ---- rows

each_map : {A B : Type 0} {P : A → Type 0} {Q : B → Type 0} (f : A → B) → ((a : A) → P a → Q (f a)) → {l : List A} → Each P l → Each Q (map f l)
each_map f h none = none
each_map f h (more {a = a} p ps) = more (h a p) (each_map f h ps)

ids_long : (t buffer : List ℕ) → every (λ at. inside buffer at 32) (id_places t) ≡ true → Each (λ id. length id ≡ 32) (ids_of t buffer)
unfolding ids_of
ids_long t buffer h =
    each_map {P = λ at. inside buffer at 32 ≡ true} (λ at. bytes_at buffer at 32) (λ at i. length-bytes_at buffer at 32 i)
    (every-each (λ at. inside buffer at 32) (id_places t) h)

payload-ids_long : (t buffer : List ℕ) → every (payload_inside buffer) (payload_rows t) ≡ true
    → Each (λ id. length id ≡ 32) (map (λ (p : PayloadValue). p.id) (map (payload_from_row buffer) (payload_rows t)))
unfolding payload_inside payload_from_row
payload-ids_long t buffer h =
    each_map {P = λ (p : PayloadValue). length p.id ≡ 32} (λ (p : PayloadValue). p.id) (λ p e. e)
    (each_map {P = λ r. payload_inside buffer r ≡ true} (payload_from_row buffer)
    (λ r i. length-bytes_at buffer r.id 32 (and-true (inside buffer r.id 32) _ i).0)
    (every-each (payload_inside buffer) (payload_rows t) h))

entries-addresses : (l : Tables) → every is_byte l.buffer ≡ true → tables_whole l ≡ true → every (entry_inside l) (entry_rows l) ≡ true
    → Each (λ (e : EntryValue). AddressTyped e.address) (entries_of l)
unfolding entries_of
entries-addresses l typed whole parts =
    each_map {P = λ r. AddressTyped (entry_from_row l r).address} (entry_from_row l) (λ r h. h)
    (each_both (λ r x y. row-address l r x y typed) (every-each entry_numbers (entry_rows l) (whole-entries l whole))
    (every-each (entry_inside l) (entry_rows l) parts))

-- ---- any message

-- the bytes of the buffer that entries are written from are bytes
abbrev pub PeersTyped : MessageWrite → Type 0
PeersTyped w = (l : Tables) → w ≡ write_peers l → every is_byte l.buffer ≡ true

message-ids : (w : MessageWrite) → message_inside w ≡ true → Each (λ id. length id ≡ 32) (ids_in (value_of w))
unfolding message_inside value_of ids_in
message-ids write_get_peers inside = none
message-ids (write_peers l) inside = none
message-ids (write_modifier_request type ids buffer) inside = ids_long ids buffer inside
message-ids (write_modifier_response type payloads buffer) inside = payload-ids_long payloads buffer inside
message-ids (write_inv type ids buffer) inside = ids_long ids buffer inside
message-ids (write_sync_info body) inside = none
message-ids (write_unknown code body) inside = none

message-addresses : (w : MessageWrite) → PeersTyped w → message_whole w ≡ true → message_inside w ≡ true
    → Each (λ (e : EntryValue). AddressTyped e.address) (Values.message_entries (value_of w))
unfolding message_whole message_inside value_of Values.message_entries
message-addresses write_get_peers typed whole inside = none
message-addresses (write_peers l) typed whole inside = entries-addresses l (typed l refl) whole inside
message-addresses (write_modifier_request type ids buffer) typed whole inside = none
message-addresses (write_modifier_response type payloads buffer) typed whole inside = none
message-addresses (write_inv type ids buffer) typed whole inside = none
message-addresses (write_sync_info body) typed whole inside = none
message-addresses (write_unknown code body) typed whole inside = none

-- 7
body_within_lem : (cap : ℕ) (v : MessageValue) → Each Holds (message_asked cap v) → length (body_bytes v) ≤ limit
unfolding message_asked
body_within_lem cap v h =
    leb-true (length (body_bytes v)) limit (each_first (each-rest (each-rest (each-append_right (entries_asked (Values.message_entries v)) _ h))))

pub message-reads-back : (network : Network) (cap : ℕ) (w : MessageWrite) (out : List ℕ) (at end : ℕ) → PeersTyped w
    → message_written network cap w out at ≡ To end → (length (body_bytes (value_of w)) ≤ limit) × ReadAs cap (value_of w)
unfolding message_written
message-reads-back network cap w out at end typed q =
    let a = written-accepted _ _ out at _ end q in
    let asked = hold_each (message_asked cap (value_of w)) a.rest.1 in
    let writable : WritableMessage cap (value_of w) =
    record { asked = asked; ids = message-ids w a.rest.0; addresses = message-addresses w typed a.first.0 a.rest.0 } in
    (body_within_lem cap (value_of w) asked, reads-message cap (value_of w) writable)

-- ---- the cap

pub any-cap : (network : Network) (cap : ℕ) (w : MessageWrite) → ((l : Tables) → w ≡ write_peers l → ⊥) → (out : List ℕ) (at : ℕ)
    → message_written network cap w out at ≡ message_written network 0 w out at
unfolding message_written message_asked value_of count_within
any-cap network cap write_get_peers other out at = refl
any-cap network cap (write_peers l) other out at = absurd (other l refl)
any-cap network cap (write_modifier_request type ids buffer) other out at = refl
any-cap network cap (write_modifier_response type payloads buffer) other out at = refl
any-cap network cap (write_inv type ids buffer) other out at = refl
any-cap network cap (write_sync_info body) other out at = refl
any-cap network cap (write_unknown code body) other out at = refl
