-- Laws of message bodies: what is written of a value is read back to that value. A body needs no cut law, since it is read from a whole frame.
use Rattle.std.specs.Prelude.{ℕ, ◌+◌, ◌≤◌, Bool, true, false, not, ◌&&◌, ◌≡◌, refl, eqb, leb, length}
use Rattle.std.proofs.Common.{zero-add, arith, ap, ap₂, ◌∙◌, length-append, le-leb, leb-true}
use mathlib.Core.List.{List, [], ◌∷◌, ◌++◌, map, flat_map}
use Rattle.std.proofs.lemmas.Bool.{not-true}
use Rattle.wire.specs.Bytes.{Each, none, more}
use Rattle.wire.proofs.BytesLaws.{each_between, each-append-left, each-append_right, every-each, and-true, length_flat_map_cons}
use Rattle.wire.proofs.ListLaws.{reads-list_of, reads-each}
use Rattle.wire.specs.Output.{ask}
use Rattle.wire.specs.Reader.{got, Reader, pure, and_then, Segment, part, list_of}
use Rattle.wire.specs.ReadsBack.{ReadsBack}
use Rattle.wire.proofs.ReadsBackLaws.{bytes_of, stands-whole, reads-pure, reads-guard, reads_then, reads-last, reads_byte, reads-part, reads-part_of}
use Rattle.vlq.specs.Vlq.{limit, vlq_bytes}
use Rattle.vlq.proofs.VlqLaws.{reads-vlq_length}
use Rattle.handshake.specs.Value.{AddressTyped, EntryValue, entry_bytes, entries_asked}
use Rattle.handshake.proofs.ValueLaws.{Writable, reads-entry, Holds, asked_writable}
use Rattle.messages.specs.Message.{Payload, Message, get_peers, peers, modifier_request, modifier_response, inv, sync_info, unknown, max_inv_objects, count, InventoryHeader, inventory_header, ids, total, payload_after, payload, payloads, peers_body, whole_body, message}
use Rattle.messages.specs.Value.{PayloadValue, MessageValue, get_peers_value, peers_value, modifier_request_value, modifier_response_value, inv_value, sync_info_value, unknown_value, payload_value, message_value, code_of, ids_bytes, payload_bytes, body_bytes, message_entries, payloads_within, count_within, unknown_code, code_free, message_asked}

-- ---- counts, ids

reads-count : (cap n : ℕ) → n ≤ limit → n ≤ cap → ReadsBack (count cap) (λ x. x) (vlq_bytes n) n
unfolding count
reads-count cap n h g = reads-last (reads-vlq_length n h) (λ x e. reads-guard (leb x cap) 10 x (le-leb x cap (omega arith)) e)

abbrev headed : ℕ → ℕ → InventoryHeader
headed type n = record { type = type; count = n }

reads-header : (type n : ℕ) → n ≤ max_inv_objects → ReadsBack inventory_header (λ h. h) (type ∷ vlq_bytes n) (headed type n)
unfolding inventory_header
reads-header type n few =
    reads_then {w = type ∷ []} {w' = vlq_bytes n} (reads_byte type) (λ t e.
    reads-last (reads-count max_inv_objects n (omega arith) few) (λ k g. reads-pure (headed t k) (ap₂ headed e g)))

-- what 22, 33 and 55 share: a type byte, a count, and as many items
module _ {A X : Type 0} (items : ℕ → Reader (List A)) (make : ℕ → List A → Message) (see : A → X) (bytes : X → List ℕ) where
  reads-counted : (code : ℕ) (v : MessageValue) (type : ℕ) (l : List X) → length l ≤ max_inv_objects
      → ReadsBack (items (length l)) (map see) (flat_map bytes l) l → ((k : List A) → map see k ≡ l → message_value code (make type k) ≡ v)
      → ReadsBack (and_then inventory_header (λ h. and_then (items h.count) (λ l. pure (make h.type l)))) (message_value code)
      (type ∷ (vlq_bytes (length l) ++ flat_map bytes l)) v
  reads-counted code v type l few each value =
      reads_then {w = type ∷ vlq_bytes (length l)} {w' = flat_map bytes l} (reads-header type (length l) few) (λ h e. rw e
      (reads-last each (λ k e. reads-pure (make type k) (value k e))))

reads-ids : (make : ℕ → List Segment → Message) (code : ℕ) (v : MessageValue) (type : ℕ) (l : List (List ℕ))
    → length l ≤ max_inv_objects → Each (λ id. length id ≡ 32) l
    → ((k : List Segment) → map bytes_of k ≡ l → message_value code (make type k) ≡ v)
    → ReadsBack (ids make) (message_value code) (ids_bytes type l) v
unfolding ids ids_bytes
reads-ids make code v type l few len value =
    reads-counted (λ n. list_of n (λ before. part 32)) make bytes_of (λ id. id) code v type l few (reads-each (λ id h. reads-part_of 32 id h) l len) value

-- ---- payloads

-- the payload lengths together, by value
total_value : List PayloadValue → ℕ
total_value [] = 0
total_value (p ∷ ps) = length p.body + total_value ps

total-value : (ps : List Payload) → total ps ≡ total_value (map payload_value ps)
unfolding total total_value payload_value
total-value [] = refl
total-value (p ∷ ps) = ap (λ (n : ℕ). length p.body.bytes + n) (total-value ps)

total-append : (ps qs : List PayloadValue) → total_value (ps ++ qs) ≡ total_value ps + total_value qs
unfolding total_value
total-append [] qs = omega arith
total-append (p ∷ ps) qs = omega (arith, total-append ps qs)

-- the payloads are in the body
total-within : (ps : List PayloadValue) → total_value ps ≤ length (flat_map payload_bytes ps)
unfolding total_value payload_bytes
total-within [] = omega arith
total-within (p ∷ ps) =
    omega (
      arith,
      total-within ps,
      length_flat_map_cons payload_bytes p ps,
      length-append p.id (vlq_bytes (length p.body) ++ p.body),
      length-append (vlq_bytes (length p.body)) p.body,
    )

-- what a payload must be to be read back
record WritablePayload (p : PayloadValue) : Type 0 where
  id : length p.id ≡ 32
  body : length p.body ≤ limit

reads-payload : (size : ℕ) (before : List Payload) (p : PayloadValue) → total before + length p.body ≤ size → WritablePayload p
    → ReadsBack (payload size before) payload_value (payload_bytes p) p
unfolding payload_after payload payload_bytes payload_value
reads-payload size before p fits h =
    reads_then (reads-part_of 32 p.id h.id) (λ id f.
    reads_then (reads-vlq_length (length p.body) h.body) (λ n e. rw e
    (reads_then {see = λ x. x} {w = []} (reads-guard (leb (total before + length p.body) size) 11 (length p.body) (le-leb _ size fits) refl) (λ n e. rw e
    (reads-last (reads-part p.body) (λ body g.
    reads-pure (record { id = id; body = body }) (ap₂ {C = PayloadValue} (λ (a b : List ℕ). record { id = a; body = b }) f g)))))))

reads-payloads : (code size type : ℕ) (ps : List PayloadValue) → total_value ps ≤ size → length ps ≤ max_inv_objects → Each WritablePayload ps
    → ReadsBack (payloads size) (message_value code) (type ∷ (vlq_bytes (length ps) ++ flat_map payload_bytes ps)) (modifier_response_value type ps)
unfolding payloads message_value total_value
reads-payloads code size type ps fits few kept =
    reads-counted (λ n. list_of n (payload size)) modifier_response payload_value payload_bytes code (modifier_response_value type ps) type ps few
    (reads-list_of ps (λ done p rest e before g. reads-payload size before p (so_far done p rest e before g) (each_between done p rest (rw e at kept))))
    (λ k e. ap (modifier_response_value type) e)
  where
    -- the payloads before one of them, and that one
    so_far : (done : List PayloadValue) (p : PayloadValue) (rest : List PayloadValue) → ps ≡ done ++ (p ∷ rest) → (before : List Payload)
        → map payload_value before ≡ done → total before + length p.body ≤ size
    so_far done p rest e before g = omega (arith, total-value before, ap total_value g, ap total_value e, total-append done (p ∷ rest))

-- ---- Peers

-- an entry is one byte at least, so that a body within the limit counts within it
entries_counted_lem : (es : List EntryValue) → length es ≤ length (flat_map entry_bytes es)
unfolding entry_bytes
entries_counted_lem [] = omega arith
entries_counted_lem (e ∷ es) = omega (arith, entries_counted_lem es, length_flat_map_cons entry_bytes e es)

reads-peers : (cap code : ℕ) (es : List EntryValue) → length es ≤ cap → length (vlq_bytes (length es) ++ flat_map entry_bytes es) ≤ limit → Each Writable es
    → ReadsBack (peers_body cap) (message_value code) (vlq_bytes (length es) ++ flat_map entry_bytes es) (peers_value es)
unfolding peers_body message_value
reads-peers cap code es few within kept =
    reads_then (reads-count cap (length es) (omega (arith, entries_counted_lem es, length-append (vlq_bytes (length es)) (flat_map entry_bytes es))) few) (λ n e. rw e
    (reads-last (reads-each reads-entry es kept) (λ l e. reads-pure (peers l) (ap peers_value e))))

-- ---- codes that are none of the six

none_of : (t u : Bool) → not t && u ≡ true → (t ≡ false) × (u ≡ true)
none_of t u h = let b = and-true (not t) u h in (not-true t b.0, b.1)

reads-unknown : (cap code : ℕ) (s : List ℕ) → unknown_code code ≡ true → message cap code s 0 ≡ got (unknown s) (length s)
unfolding message unknown_code whole_body
reads-unknown cap code s h =
    let a = none_of (eqb code 1) _ h in
    let b = none_of (eqb code 2) _ a.1 in
    let c = none_of (eqb code 22) _ b.1 in
    let d = none_of (eqb code 33) _ c.1 in
    let e = none_of (eqb code 55) _ d.1 in
    rw (a.0, b.0, c.0, d.0, e.0, not-true (eqb code 65) e.1)

-- ---- any message

-- the ids, each of which is to have 32 bytes
unfoldable pub ids_in : MessageValue → List (List ℕ)
ids_in (modifier_request_value type ids) = ids
ids_in (modifier_response_value type ps) = map (λ (p : PayloadValue). p.id) ps
ids_in (inv_value type ids) = ids
ids_in get_peers_value = []
ids_in (peers_value es) = []
ids_in (sync_info_value body) = []
ids_in (unknown_value code body) = []

-- a message of which all questions of a writer from 13 on hold, with ids of 32 bytes, and addresses whose numbers are in the range of their types
pub record WritableMessage (cap : ℕ) (v : MessageValue) : Type 0 where
  pub asked : Each Holds (message_asked cap v)
  pub ids : Each (λ id. length id ≡ 32) (ids_in v)
  pub addresses : Each (λ e. AddressTyped e.address) (message_entries v)

-- the body of v is read whole, to a message whose value is v
pub record ReadAs (cap : ℕ) (v : MessageValue) : Type 0 where
  pub reading : Message
  pub reads : message cap (code_of v) (body_bytes v) 0 ≡ got reading (length (body_bytes v))
  pub value : message_value (code_of v) reading ≡ v

-- the questions one by one
record Answered (cap : ℕ) (v : MessageValue) : Type 0 where
  entries : Each Holds (entries_asked (message_entries v))
  payloads : payloads_within v ≡ true
  count : count_within cap v ≡ true
  body : length (body_bytes v) ≤ limit
  code : code_free v ≡ true

answered : (cap : ℕ) (v : MessageValue) → Each Holds (message_asked cap v) → Answered cap v
unfolding message_asked
answered cap v h = go (each-append-left (entries_asked (message_entries v)) _ h) (each-append_right (entries_asked (message_entries v)) _ h)
  where
    go : Each Holds (entries_asked (message_entries v))
        → Each Holds (ask 3 (payloads_within v) ∷ ask 10 (count_within cap v) ∷ ask 7 (leb (length (body_bytes v)) limit) ∷ ask 15 (code_free v) ∷ [])
        → Answered cap v
    go es (more p (more c (more b (more f none)))) =
        record { entries = es; payloads = p; count = c; body = leb-true (length (body_bytes v)) limit b; code = f }

-- a body that one of the readers reads back
read_as_lem : (cap : ℕ) (v : MessageValue) {p : Reader Message} → ReadsBack p (message_value (code_of v)) (body_bytes v) v
    → message cap (code_of v) (body_bytes v) 0 ≡ p (body_bytes v) 0 → ReadAs cap v
read_as_lem cap v {p} r e =
    let b = r.reads (body_bytes v) 0 (stands-whole (body_bytes v)) in
    record { reading = b.0; reads = e ∙ b.1 ∙ ap (got b.0) (zero-add (length (body_bytes v))); value = b.2 }

writable_payloads : (ps : List PayloadValue) → Each (λ p. leb (length p.body) limit ≡ true) ps
    → Each (λ id. length id ≡ 32) (map (λ (p : PayloadValue). p.id) ps) → Each WritablePayload ps
writable_payloads [] none none = none
writable_payloads (p ∷ ps) (more w ws) (more l ls) = more (record { id = l; body = leb-true (length p.body) limit w }) (writable_payloads ps ws ls)

-- every message that can be written is read back
pub reads-message : (cap : ℕ) (v : MessageValue) → WritableMessage cap v → ReadAs cap v
unfolding message code_of body_bytes message_value message_entries ids_in payloads_within count_within code_free whole_body
reads-message cap get_peers_value h = record { reading = get_peers; reads = refl; value = refl }
reads-message cap (peers_value es) h =
    let a = answered cap (peers_value es) h.asked in
    read_as_lem cap (peers_value es)
    (reads-peers cap 2 es (leb-true (length es) cap a.count) a.body (asked_writable es a.entries h.addresses))
    refl
reads-message cap (modifier_request_value type l) h =
    let few = leb-true (length l) max_inv_objects (answered cap (modifier_request_value type l) h.asked).count in
    read_as_lem cap (modifier_request_value type l) (reads-ids modifier_request 22 (modifier_request_value type l) type l few h.ids (λ k e. ap (modifier_request_value type) e)) refl
reads-message cap (modifier_response_value type ps) h =
    let a = answered cap (modifier_response_value type ps) h.asked in
    read_as_lem cap (modifier_response_value type ps)
    (reads-payloads 33 (length (body_bytes (modifier_response_value type ps))) type ps
    (omega (arith, total-within ps, length-append (vlq_bytes (length ps)) (flat_map payload_bytes ps)))
    (leb-true (length ps) max_inv_objects a.count)
    (writable_payloads ps (every-each (λ p. leb (length p.body) limit) ps a.payloads) h.ids))
    refl
reads-message cap (inv_value type l) h =
    let few = leb-true (length l) max_inv_objects (answered cap (inv_value type l) h.asked).count in
    read_as_lem cap (inv_value type l) (reads-ids inv 55 (inv_value type l) type l few h.ids (λ k e. ap (inv_value type) e)) refl
reads-message cap (sync_info_value body) h = record { reading = sync_info body; reads = refl; value = refl }
reads-message cap (unknown_value code body) h =
    record { reading = unknown body; reads = reads-unknown cap code body (answered cap (unknown_value code body) h.asked).code; value = refl }
