-- Laws of the writer of ModifierResponse: what is said by sizes is what `message_written` says, and the lengths of rows
-- and of the body.
use Rattle.std.specs.Prelude.{ℕ, ◌+◌, ◌/◌, ◌≤◌, true, ◌≡◌, leb}
use native.Mathlib.Omega.{arith}
use mathlib.Core.List.{List, [], ◌∷◌, ◌++◌, map, flat_map}
use Rattle.std.proofs.Math.Path.{refl, ap}
use Rattle.std.proofs.Common.{sym, ◌∙◌}
use Rattle.std.proofs.Math.ListN.{length, length-append}
use Rattle.std.proofs.lemmas.List.{length-map}
use borrow.Author.Tests.{leb-true}
use Rattle.wire.specs.Bytes.{every}
use Rattle.wire.proofs.BytesLaws.{and-true}
use Rattle.wire.specs.Output.{Written, To, asked, written}
use Rattle.wire.proofs.OutputLaws.{asked-to}
use Rattle.vlq.specs.Vlq.{limit, vlq_bytes}
use Rattle.types.specs.declared.Network.{Network}
use Rattle.frame_write.specs.Asked.{frame_length}
use Rattle.frame_write.specs.FrameWriteLaws.{length-frame}
use Rattle.handshake.specs.Tables.{bytes_at, inside}
use Rattle.handshake.proofs.TablesLaws.{length-bytes_at}
use Rattle.handshake.specs.Value.{entries_asked}
use Rattle.handshake.proofs.RowsLaws.{length-rows}
use Rattle.messages.specs.Value as Values
use Rattle.messages.specs.Value.{PayloadValue, code_of, payload_bytes, body_bytes, payloads_within, count_within, code_free, message_asked}
use Rattle.messages.specs.Writes.{payload_row_size, payload_row, payload_rows, payload_from_row, payload_inside, write_modifier_response, value_of, message_whole, message_inside, message_written}
use Rattle.messages.specs.declared.PayloadRow.{PayloadRow}
use Rattle.messages_response_write.specs.Asked.{payloads_of, row_within, response_bytes, response_written_for, row_length, rows_length}

-- ---- what is said

pub length-payloads : (payloads buffer : List ℕ) → length (payloads_of payloads buffer) ≡ length payloads / payload_row_size
length-payloads payloads buffer = length-map (payload_rows payloads) (payload_from_row buffer) ∙ length-rows (payload_row payloads) 0 (length payloads / payload_row_size)

pub said-response : (network : Network) (type : ℕ) (payloads buffer out : List ℕ) (at : ℕ)
    → response_written_for type payloads buffer (length out) at ≡ message_written network 0 (write_modifier_response type payloads buffer) out at
unfolding response_written_for message_written written asked message_whole message_inside message_asked value_of Values.message_entries payloads_within count_within code_free entries_asked every code_of
said-response network type payloads buffer out at = rw (length-frame network 33 (response_bytes type payloads buffer), length-payloads payloads buffer)

-- ---- lengths

module _ (buffer : List ℕ) where
  -- a row inside the buffer
  module _ (row : PayloadRow) (h : payload_inside buffer row ≡ true) where
    pub id-inside : row.id + 32 ≤ length buffer
    unfolding payload_inside inside
    id-inside = leb-true (row.id + 32) (length buffer) (and-true (leb (row.id + 32) (length buffer)) _ h).0

    pub bytes_inside : row.at + row.len ≤ length buffer
    unfolding payload_inside inside
    bytes_inside = leb-true (row.at + row.len) (length buffer) (and-true (leb (row.id + 32) (length buffer)) _ h).1

    pub body_long : length (payload_from_row buffer row).body ≡ row.len
    unfolding payload_inside payload_from_row
    body_long = length-bytes_at buffer row.at row.len (and-true (inside buffer row.id 32) _ h).1

    -- its id, its length and its bytes
    pub payload_parts : payload_bytes (payload_from_row buffer row) ≡ bytes_at buffer row.id 32 ++ (vlq_bytes row.len ++ bytes_at buffer row.at row.len)
    unfolding payload_bytes payload_from_row
    payload_parts = ap (λ (n : ℕ). bytes_at buffer row.id 32 ++ (vlq_bytes n ++ bytes_at buffer row.at row.len)) body_long

    pub payload_long : length (payload_bytes (payload_from_row buffer row)) ≡ row_length row
    unfolding payload_inside row_length payload_from_row
    payload_long =
        omega (
          arith,
          ap length payload_parts,
          length-append (bytes_at buffer row.id 32) (vlq_bytes row.len ++ bytes_at buffer row.at row.len),
          length-append (vlq_bytes row.len) (bytes_at buffer row.at row.len),
          body_long,
          length-bytes_at buffer row.id 32 (and-true (inside buffer row.id 32) _ h).0,
        )

  pub payloads_long : (l : List PayloadRow) → every (payload_inside buffer) l ≡ true → length (flat_map payload_bytes (map (payload_from_row buffer) l)) ≡ rows_length l
  unfolding every flat_map rows_length
  payloads_long [] h = refl
  payloads_long (row ∷ l) h =
      let a = and-true (payload_inside buffer row) _ h in
      omega (arith, length-append (payload_bytes (payload_from_row buffer row)) (flat_map payload_bytes (map (payload_from_row buffer) l)), payload_long row a.0, payloads_long l a.1)

  -- 3 may be asked of the rows
  pub within-rows : (l : List PayloadRow) → every (payload_inside buffer) l ≡ true
      → every (λ (p : PayloadValue). leb (length p.body) limit) (map (payload_from_row buffer) l) ≡ every row_within l
  unfolding every row_within
  within-rows [] h = refl
  within-rows (row ∷ l) h = let a = and-true (payload_inside buffer row) _ h in rw (body_long row a.0, within-rows l a.1)

-- a type byte, the count and the payloads
pub response_parts : (type : ℕ) (payloads buffer : List ℕ)
    → response_bytes type payloads buffer ≡ (type ∷ []) ++ (vlq_bytes (length payloads / payload_row_size) ++ flat_map payload_bytes (payloads_of payloads buffer))
unfolding body_bytes
response_parts type payloads buffer = rw (length-payloads payloads buffer)

pub length_parts : (type : ℕ) (payloads buffer : List ℕ)
    → length (response_bytes type payloads buffer) ≡ 1 + length (vlq_bytes (length payloads / payload_row_size)) + length (flat_map payload_bytes (payloads_of payloads buffer))
length_parts type payloads buffer =
    omega (arith, ap length (response_parts type payloads buffer), length-append (vlq_bytes (length payloads / payload_row_size)) (flat_map payload_bytes (payloads_of payloads buffer)))

pub length-response : (type : ℕ) (payloads buffer : List ℕ) → every (payload_inside buffer) (payload_rows payloads) ≡ true
    → length (response_bytes type payloads buffer) ≡ 1 + length (vlq_bytes (length payloads / payload_row_size)) + rows_length (payload_rows payloads)
length-response type payloads buffer h = omega (arith, length_parts type payloads buffer, payloads_long buffer (payload_rows payloads) h)

-- a writer that accepted
pub asked-response : (type : ℕ) (payloads buffer : List ℕ) (len at : ℕ) {e : ℕ} {r : Written} → r ≡ response_written_for type payloads buffer len at → r ≡ To e
    → (every (payload_inside buffer) (payload_rows payloads) ≡ true)
    × ((length (response_bytes type payloads buffer) ≤ limit) × (at + frame_length (length (response_bytes type payloads buffer)) ≤ len))
unfolding response_written_for
asked-response type payloads buffer len at {e} says p =
    let n : ℕ = length (response_bytes type payloads buffer) in
    let h = (asked-to _ (To (at + frame_length n)) e (sym says ∙ p)).0 in
    (h.1.1.0, (leb-true n limit h.1.1.1.1.1.0, leb-true (at + frame_length n) len h.1.1.1.1.1.1.0))
