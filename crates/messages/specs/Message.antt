-- Message bodies as they are read (document 01, "Messages"): each from place 0 of a body, its places being places in the body.
-- Bytes left over in a body are ignored. Laws stand in `MessageLaws`.
use Rattle.std.specs.Prelude.{ℕ, ◌+◌, cond, List, [], ◌∷◌, eqb, leb, length}
use Rattle.wire.specs.Reader.{got, Reader, pure, and_then, guard, byte, Segment, part, list_of}
use Rattle.vlq.specs.Vlq.{vlq_length}
use Rattle.handshake.specs.Entry.{Entry, entry}

pub record Payload : Type 0 where
  pub id : Segment
  pub body : Segment

pub data Message : Type 0 where
  get_peers : Message
  peers : List Entry → Message
  modifier_request : ℕ → List Segment → Message
  modifier_response : ℕ → List Payload → Message
  inv : ℕ → List Segment → Message
  sync_info : List ℕ → Message
  unknown : List ℕ → Message

-- a count VLQ
-- Is it at most the cap? 10, after 3
unfoldable pub count : ℕ → Reader ℕ
count cap = and_then vlq_length (λ n. guard (leb n cap) 10 n)

-- the most ids and payloads that a message may count
abbrev pub max_inv_objects : ℕ
max_inv_objects = 400

-- what 22, 33 and 55 begin with
pub record InventoryHeader : Type 0 where
  pub type : ℕ
  pub count : ℕ

-- type byte, count
unfoldable pub inventory_header : Reader InventoryHeader
inventory_header =
    and_then byte (λ type.
    and_then (count max_inv_objects) (λ n.
    pure (record { type = type; count = n })))

-- 22 and 55: type byte, count, ids of 32 bytes
unfoldable pub ids : (ℕ → List Segment → Message) → Reader Message
ids message =
    and_then inventory_header (λ h.
    and_then (list_of h.count (λ before. part 32)) (λ l.
    pure (message h.type l)))

-- the payload lengths together
unfoldable pub total : List Payload → ℕ
total [] = 0
total (p ∷ ps) = length p.body.bytes + total ps

-- an id, a length and that many bytes, in a body of `size` bytes; `sum` is the payload lengths so far together
-- Are the payload lengths so far, this one included, together at most the body's length? 11, after the length's 3 and before its bytes
unfoldable pub payload_after : ℕ → ℕ → Reader Payload
payload_after size sum =
    and_then (part 32) (λ id.
    and_then vlq_length (λ n.
    and_then (guard (leb (sum + n) size) 11 n) (λ n.
    and_then (part n) (λ body.
    pure (record { id = id; body = body })))))

-- `before` are the payloads so far
unfoldable pub payload : ℕ → List Payload → Reader Payload
payload size before = payload_after size (total before)

-- 33: type byte, count, payloads
unfoldable pub payloads : ℕ → Reader Message
payloads size =
    and_then inventory_header (λ h.
    and_then (list_of h.count (payload size)) (λ l.
    pure (modifier_response h.type l)))

-- Peers: count, entries
unfoldable pub peers_body : ℕ → Reader Message
peers_body cap =
    and_then (count cap) (λ n.
    and_then (list_of n (λ before. entry)) (λ l.
    pure (peers l)))

-- the whole body as it is
unfoldable pub whole_body : (List ℕ → Message) → Reader Message
whole_body message s at = got (message s) (length s)

-- GetPeers ignores its body
unfoldable pub message : ℕ → ℕ → Reader Message
message cap code s at =
    cond (eqb code 1) (pure get_peers s at)
    (cond (eqb code 2) (peers_body cap s at)
    (cond (eqb code 22) (ids modifier_request s at)
    (cond (eqb code 33) (payloads (length s) s at)
    (cond (eqb code 55) (ids inv s at)
    (cond (eqb code 65) (whole_body sync_info s at)
    (whole_body unknown s at))))))
