-- The bytes of every entry that is read stand at its places, its agent's one after the entry's own place; and the entry of a handshake is an entry.
use Rattle.std.specs.Prelude.{ℕ, ◌+◌, List, ◌≡◌, length}
use Rattle.std.proofs.Common.{ap, ap₂, ◌∙◌}
use Rattle.wire.proofs.AnswerLaws.{value_of, end_of_lem, bind-got}
use Rattle.wire.proofs.GivesLaws.{Gives, gives_then, gives-any, gives-pure, gives_part, gives-list_of}
use Rattle.wire.specs.Reader.{got, bind, place, byte}
use Rattle.wire.specs.ReadsBack.{Placed}
use Rattle.vlq.specs.Vlq.{vlq, vlq_length}
use Rattle.vlq.proofs.ShortStringLaws.{gives-short_string}
use Rattle.handshake.specs.Entry.{version, address_if, feature, Entry, entry, EntryHandshake, handshake}
use Rattle.handshake.specs.Places.{EntryPlaced}

-- a feature's body stands where its start says, and the feature ends with it
pub gives-feature : {s : List ℕ} {at : ℕ} → Gives s at (λ f e. Placed s f.body × (f.body.start + length f.body.bytes ≡ e)) feature
unfolding feature
gives-feature =
    gives_then (gives-any byte) (λ id next i.
    gives_then (gives-any vlq_length) (λ n next l.
    gives_then (gives_part n) (λ body next b.
    gives-pure (record { id = id; body = body }) (b.placed, b.end))))

-- an entry starts with its agent's length byte
pub gives-entry : {s : List ℕ} {at : ℕ} → Gives s at (λ e next. (e.agent.start ≡ at + 1) × EntryPlaced s e) entry
unfolding entry
gives-entry {s} =
    gives_then gives-short_string (λ agent next a.
    gives_then (gives-any version) (λ version next v.
    gives_then gives-short_string (λ name next n.
    gives_then (gives-any byte) (λ flag next f.
    gives_then (gives-any (address_if flag)) (λ address next d.
    gives_then (gives-any byte) (λ count next c.
    gives_then (gives-any place) (λ first next p.
    gives_then (gives-list_of count (λ before at. body)) (λ features next fs.
    gives-pure (record { agent = agent; version = version; name = name; address = address; first = first; features = features })
    (a.0, record { agent = a.1; name = n.1; features = fs })))))))))
  where
    body : {at : ℕ} → Gives s at (λ f e. Placed s f.body) feature
    body = record { holds = λ f e q. (gives-feature.holds f e q).0 }

abbrev stamped : ℕ → Entry → EntryHandshake
stamped t e = record { timestamp = t; entry = e }

-- the entry of a handshake was read after the timestamp
pub handshake-entry : (s : List ℕ) (at : ℕ) {h : EntryHandshake} {end : ℕ} → handshake s at ≡ got h end → (from : ℕ) × (entry s from ≡ got h.entry end)
unfolding handshake
handshake-entry s at {h} {end} q =
    let a = bind-got (vlq s at) (λ t n. bind (entry s n) (λ e m. got (stamped t e) m)) q in
    let b = bind-got (entry s a.next) (λ e m. got (stamped a.value e) m) a.rest in
    let v : got b.value b.next ≡ got h.entry end = ap₂ got (ap (λ (h : EntryHandshake). h.entry) (value_of b.rest)) (end_of_lem b.rest) in
    (a.next, b.answer ∙ v)
