-- Laws of the writers of ModifierRequest and Inv: what is said by sizes is what `message_written` says; and the lengths
-- of their bodies.
use Rattle.std.specs.Prelude.{ℕ, zero, suc, ◌+◌, ◌*◌, ◌≤◌, true, ◌≡◌, refl, leb, length, get_or, set}
use Rattle.std.proofs.Common.{arith, sym, ap, ◌∙◌, length-set, length-append, leb-true}
use mathlib.Core.List.{List, [], ◌∷◌, ◌++◌, map, flat_map}
use Rattle.std.proofs.lemmas.List.{length-map}
use Rattle.wire.specs.Bytes.{every}
use Rattle.wire.proofs.BytesLaws.{and-true}
use Rattle.wire.specs.Output.{Written, To, asked, written, output_after, Wrote}
use Rattle.wire.proofs.OutputLaws.{wrote_byte, wrote_then, wrote_checked, asked-to}
use Rattle.vlq.specs.Vlq.{limit, vlq_bytes}
use Rattle.vlq.proofs.VlqLaws.{vlq_ten}
use Rattle.types.specs.declared.Network.{Network}
use Rattle.frame_write.specs.Asked.{frame_length}
use Rattle.frame_write.specs.FrameWriteLaws.{length-frame, frame_length-body}
use Rattle.handshake.specs.Tables.{rows, bytes_at, inside}
use Rattle.handshake.proofs.TablesLaws.{length-bytes_at}
use Rattle.handshake.specs.Value.{entries_asked}
use Rattle.handshake.proofs.RowsLaws.{length-rows}
use Rattle.messages.specs.Value as Values
use Rattle.messages.specs.Value.{code_of, body_bytes, ids_bytes, payloads_within, count_within, code_free, message_asked}
use Rattle.messages.specs.Writes.{id_places, ids_of, write_modifier_request, write_inv, value_of, message_whole, message_inside, message_written}
use Rattle.messages_inventory_write.specs.Asked.{ids_inside, ids_written_for}

-- ---- what is said

pub length_ids : (ids buffer : List ℕ) → length (ids_of ids buffer) ≡ length ids
unfolding ids_of
length_ids ids buffer = length-map (id_places ids) (λ at. bytes_at buffer at 32) ∙ length-rows (λ k. get_or ids k 0) 0 (length ids)

pub said-request : (network : Network) (type : ℕ) (ids buffer out : List ℕ) (at : ℕ)
    → message_written network 0 (write_modifier_request type ids buffer) out at ≡ ids_written_for type ids buffer (length out) at
unfolding ids_written_for message_written written asked message_whole message_inside message_asked value_of Values.message_entries payloads_within count_within code_free entries_asked every body_bytes code_of inside
said-request network type ids buffer out at = rw (length-frame network 22 (ids_bytes type (ids_of ids buffer)), length_ids ids buffer)

pub said-inv : (network : Network) (type : ℕ) (ids buffer out : List ℕ) (at : ℕ)
    → message_written network 0 (write_inv type ids buffer) out at ≡ ids_written_for type ids buffer (length out) at
unfolding ids_written_for message_written written asked message_whole message_inside message_asked value_of Values.message_entries payloads_within count_within code_free entries_asked every body_bytes code_of inside
said-inv network type ids buffer out at = rw (length-frame network 55 (ids_bytes type (ids_of ids buffer)), length_ids ids buffer)

-- ---- lengths

ids_long : (buffer : List ℕ) (f : ℕ → ℕ) (i n : ℕ) → every (λ at. leb (at + 32) (length buffer)) (rows f i n) ≡ true
    → length (flat_map (λ id. id) (map (λ at. bytes_at buffer at 32) (rows f i n))) ≡ 32 * n
unfolding rows every flat_map inside
ids_long buffer f i zero h = refl
ids_long buffer f i (suc n) h =
    let a = and-true (leb (f i + 32) (length buffer)) _ h in
    let rest : List ℕ = flat_map (λ id. id) (map (λ at. bytes_at buffer at 32) (rows f (i + 1) n)) in
    omega (arith, length-append (bytes_at buffer (f i) 32) rest, length-bytes_at buffer (f i) 32 a.0, ids_long buffer f (i + 1) n a.1)

pub length-rows-bytes : (ids buffer : List ℕ) → ids_inside ids (length buffer) ≡ true → length (flat_map (λ id. id) (ids_of ids buffer)) ≡ 32 * length ids
unfolding ids_of
length-rows-bytes ids buffer h = ids_long buffer (λ k. get_or ids k 0) 0 (length ids) h

-- a type byte, the count and the ids
pub ids_parts : (type : ℕ) (ids buffer : List ℕ) → ids_bytes type (ids_of ids buffer) ≡ (type ∷ []) ++ (vlq_bytes (length ids) ++ flat_map (λ id. id) (ids_of ids buffer))
unfolding ids_bytes
ids_parts type ids buffer = rw (length_ids ids buffer)

pub length_parts : (type : ℕ) (ids buffer : List ℕ)
    → length (ids_bytes type (ids_of ids buffer)) ≡ 1 + length (vlq_bytes (length ids)) + length (flat_map (λ id. id) (ids_of ids buffer))
length_parts type ids buffer =
    omega (arith, ap length (ids_parts type ids buffer), length-append (vlq_bytes (length ids)) (flat_map (λ id. id) (ids_of ids buffer)))

pub length-ids_bytes : (type : ℕ) (ids buffer : List ℕ) → ids_inside ids (length buffer) ≡ true
    → length (ids_bytes type (ids_of ids buffer)) ≡ 1 + length (vlq_bytes (length ids)) + 32 * length ids
length-ids_bytes type ids buffer h = omega (arith, length_parts type ids buffer, length-rows-bytes ids buffer h)

-- ---- a writer that accepted

pub asked-ids : (type : ℕ) (ids buffer : List ℕ) (len at : ℕ) {e : ℕ} → To e ≡ ids_written_for type ids buffer len at
    → (ids_inside ids (length buffer) ≡ true)
    × ((length (ids_bytes type (ids_of ids buffer)) ≤ limit) × (at + frame_length (length (ids_bytes type (ids_of ids buffer))) ≤ len))
unfolding ids_written_for
asked-ids type ids buffer len at {e} says =
    let n : ℕ = length (ids_bytes type (ids_of ids buffer)) in
    let h = (asked-to _ (To (at + frame_length n)) e (sym says)).0 in
    (h.1.0, (leb-true n limit h.1.1.1.0, leb-true (at + frame_length n) len h.1.1.1.1.0))

-- ---- what was stored

-- a type byte, and a count after it
pub count_stored : (type n : ℕ) (out : List ℕ) (at : ℕ) {r : Written} {mid : List ℕ} → at + 1 + length (vlq_bytes n) ≤ length out
    → r ≡ written [] [] (set out at type) (at + 1) (vlq_bytes n) → mid ≡ output_after r (set out at type) (at + 1) (vlq_bytes n)
    → Wrote out at ((type ∷ []) ++ vlq_bytes n) (at + 1 + length (vlq_bytes n)) mid
count_stored type n out at room says left =
    wrote_then (wrote_byte out at type)
    (wrote_checked [] [] (set out at type) (at + 1) (vlq_bytes n) says left tt tt (omega (arith, length-set out at type)))

pub ruleset inventory_laws = (said-request, said-inv, asked-ids)

pub ruleset lengths = (ids_parts, length_parts, length-ids_bytes, vlq_ten, frame_length-body)
