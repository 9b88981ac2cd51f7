-- The bytes of every message that is read stand at its places; and by which reader it was read.
use Rattle.std.specs.Prelude.{ℕ, ◌+◌, Bool, true, false, cond, List, ◌≡◌, refl, eqb, leb, length}
use Rattle.wire.specs.Bytes.{Each}
use Rattle.wire.proofs.AnswerLaws.{value_of}
use Rattle.wire.proofs.GivesLaws.{Gives, gives_then, gives-any, gives-pure, gives_part, gives-list_of}
use Rattle.wire.specs.Reader.{Answer, got, guard, Segment, part}
use Rattle.vlq.specs.Vlq.{vlq_length}
use Rattle.handshake.specs.Places.{EntryPlaced}
use Rattle.handshake.specs.Entry.{entry}
use Rattle.handshake.proofs.PlacesLaws.{gives-entry}
use Rattle.messages.specs.Message.{Payload, Message, get_peers, peers, modifier_request, modifier_response, inv, sync_info, unknown, count, inventory_header, ids, total, payload_after, payload, payloads, peers_body, whole_body, message}
use Rattle.messages.specs.Places.{IdPlaced, PayloadPlaced, MessagePlaced}

-- ---- by which reader

pub data ReadBy (cap : ℕ) (s : List ℕ) (at : ℕ) : Message → ℕ → Type 0 where
  by_none : {e : ℕ} → ReadBy cap s at get_peers e
  by_peers : {m : Message} {e : ℕ} → peers_body cap s at ≡ got m e → ReadBy cap s at m e
  by_request : {m : Message} {e : ℕ} → ids modifier_request s at ≡ got m e → ReadBy cap s at m e
  by_response : {m : Message} {e : ℕ} → payloads (length s) s at ≡ got m e → ReadBy cap s at m e
  by_inv : {m : Message} {e : ℕ} → ids inv s at ≡ got m e → ReadBy cap s at m e
  by_sync_info : {e : ℕ} → ReadBy cap s at (sync_info s) e
  by_unknown : {e : ℕ} → ReadBy cap s at (unknown s) e

cond-got : {P : Type 0} (b : Bool) {r w : Answer Message} {m : Message} {e : ℕ} → cond b r w ≡ got m e → (r ≡ got m e → P) → (w ≡ got m e → P) → P
cond-got true q f g = f q
cond-got false q f g = g q

pub read_by : (cap code : ℕ) (s : List ℕ) (at : ℕ) {m : Message} {e : ℕ} → message cap code s at ≡ got m e → ReadBy cap s at m e
unfolding message whole_body
read_by cap code s at {m} {e} q =
    cond-got (eqb code 1) q (λ q. rw (← value_of q) by_none) (λ q.
    cond-got (eqb code 2) q by_peers (λ q.
    cond-got (eqb code 22) q by_request (λ q.
    cond-got (eqb code 33) q by_response (λ q.
    cond-got (eqb code 55) q by_inv (λ q.
    cond-got (eqb code 65) q (λ q. rw (← value_of q) by_sync_info) (λ q.
    rw (← value_of q) by_unknown))))))

-- ---- where the bytes stand

module _ {s : List ℕ} {at : ℕ} where
  gives-id : Gives s at (λ g e. IdPlaced s g) (part 32)
  gives-id = record { holds = λ g e q. let p = (gives_part 32).holds g e q in (p.size, p.placed) }

  pub gives-payload : (size : ℕ) (before : List Payload) → Gives s at (λ p e. PayloadPlaced s p) (payload size before)
  unfolding payload payload_after
  gives-payload size before =
      gives_then gives-id (λ id next i.
      gives_then (gives-any vlq_length) (λ n next l.
      gives_then (gives-any (guard (leb (total before + n) size) 11 n)) (λ n next t.
      gives_then (gives_part n) (λ body next b.
      gives-pure (record { id = id; body = body }) (i, b.placed)))))

module _ {s : List ℕ} {at : ℕ} where
  gives-ids : (make : ℕ → List Segment → Message) → ((type : ℕ) (l : List Segment) → Each (IdPlaced s) l → MessagePlaced s (make type l))
      → Gives s at (λ m e. MessagePlaced s m) (ids make)
  unfolding ids
  gives-ids make h =
      gives_then (gives-any inventory_header) (λ opening next o.
      gives_then (gives-list_of opening.count (λ before at. gives-id)) (λ l next each.
      gives-pure (make opening.type l) (h opening.type l each)))

  gives-payloads : (size : ℕ) → Gives s at (λ m e. MessagePlaced s m) (payloads size)
  unfolding payloads MessagePlaced
  gives-payloads size =
      gives_then (gives-any inventory_header) (λ opening next o.
      gives_then (gives-list_of opening.count (λ before at. gives-payload size before)) (λ l next each.
      gives-pure (modifier_response opening.type l) each))

  gives-peers : (cap : ℕ) → Gives s at (λ m e. MessagePlaced s m) (peers_body cap)
  unfolding peers_body MessagePlaced
  gives-peers cap =
      gives_then (gives-any (count cap)) (λ n next c.
      gives_then (gives-list_of n (λ before at. placed)) (λ l next each.
      gives-pure (peers l) each))
    where
      placed : {at : ℕ} → Gives s at (λ e next. EntryPlaced s e) entry
      placed = record { holds = λ e next q. (gives-entry.holds e next q).1 }

pub message-placed : (cap code : ℕ) (s : List ℕ) (at : ℕ) {m : Message} {e : ℕ} → message cap code s at ≡ got m e → MessagePlaced s m
unfolding MessagePlaced
message-placed cap code s at q = go (read_by cap code s at q)
  where
    go : {m : Message} {e : ℕ} → ReadBy cap s at m e → MessagePlaced s m
    go by_none = tt
    go (by_peers {m = m} {e = e} q) = (gives-peers cap).holds m e q
    go (by_request {m = m} {e = e} q) = (gives-ids modifier_request (λ type l each. each)).holds m e q
    go (by_response {m = m} {e = e} q) = (gives-payloads (length s)).holds m e q
    go (by_inv {m = m} {e = e} q) = (gives-ids inv (λ type l each. each)).holds m e q
    go by_sync_info = refl
    go by_unknown = refl
