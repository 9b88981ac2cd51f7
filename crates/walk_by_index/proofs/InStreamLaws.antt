-- Laws of `InStream`: of a body in the stream, a place that is read there is as far after the body's start in the stream, so that the bytes of every entry,
-- id and payload stand in the stream at the places that are given; of what is read by index, no place is refused.
use Rattle.std.specs.Prelude.{ℕ, ◌+◌, ◌^◌, ◌≤◌, ◌<◌, Bool, List, ◌≡◌, ltb, leb, get_or, take, drop}
use native.Mathlib.Omega.{arith}
use Rattle.std.proofs.Math.Bool.{true, false, cond}
use Rattle.std.proofs.Common.{Ok, Err, sym, ap, ◌∙◌, length-take, length-drop, drop-drop}
use Rattle.std.proofs.Math.ListN.{length}
use borrow.Author.Tests.{le-leb, lt-ltb, leb-true}
use Rattle.wire.specs.Reader.{Answer, got, refused, Reader, bind, guard, place, byte, Segment, part, list_of, map_answer}
use Rattle.wire.specs.Refusals.{number}
use Rattle.wire.specs.declared.Refusal.{Refusal}
use Rattle.wire.proofs.ReaderLaws.{map-value, map-got, Taken, field-taken}
use Rattle.wire.proofs.AnswerLaws.{no_answer, value_of, bind-got}
use Rattle.wire.proofs.GivesLaws.{Gives, PartGiven, gives_then, gives-any, gives-pure, gives_part}
use Rattle.wire.specs.ReadsBack.{StandsAt}
use Rattle.wire.proofs.StableLaws.{stable_ends, take-drop-take}
use Rattle.vlq.specs.Vlq.{vlq_length}
use Rattle.vlq.specs.ShortString.{short_string}
use Rattle.types.specs.Places.{located}
use Rattle.types.specs.declared.StreamPlace.{StreamPlace}
use Rattle.frame_read.specs.Answers.{part_in}
use Rattle.frame_read.specs.declared.StreamPart.{StreamPart}
use Rattle.handshake.specs.Entry.{version, address_if, feature, Entry, entry}
use Rattle.handshake.proofs.EntryLaws.{stable_entry}
use Rattle.handshake.proofs.PlacesLaws.{gives-entry}
use Rattle.handshake_read.specs.Answers.{peer_spec_of}
use Rattle.messages.specs.Message as Bodies
use Rattle.messages.specs.Message.{total, payload_after, payload}
use Rattle.messages.proofs.PlacesLaws.{gives-payload}
use Rattle.messages_inventory_read.specs.Answers.{id_of}
use Rattle.messages_response_read.specs.Answers.{payload_of}
use Rattle.messages_inventory_read.specs.Parts.{items, items_start, item_by_index, item_at, id_at}
use Rattle.messages_response_read.specs.Parts.{payload_at}
use Rattle.messages_peers_read.specs.Parts.{entries, entries_start, entry_at}
use Rattle.walk_by_index.specs.Answers.{stream_id_answer}
use Rattle.walk_by_index.specs.InStream.{is_inside, in_stream, stream_entry, stream_payload, entry_to_stream, id_to_stream, payload_to_stream, from_body, entry_in_stream, id_in_stream, payload_in_stream}

-- ---- `from_body` and `id_to_stream`, case by case

module _ {A B : Type 0} (f : A → ℕ → Answer B) (s : List ℕ) (body : StreamPart) where
  pub from-outside : (answer : Answer A) → is_inside s body ≡ false → refused 12 ≡ from_body f s body answer
  unfolding from_body
  from-outside answer out = rw out

  pub from-got : (answer : Answer A) {a : A} {next : ℕ} → is_inside s body ≡ true → answer ≡ got a next → f a next ≡ from_body f s body answer
  unfolding from_body
  from-got answer inside is = rw (inside, is)

  pub from-refused : (answer : Answer A) {m : ℕ} → is_inside s body ≡ true → answer ≡ refused m → refused m ≡ from_body f s body answer
  unfolding from_body
  from-refused answer inside is = rw (inside, is)

pub id-refused : (body : StreamPart) (at next : ℕ) {m : Refusal} → in_stream body at ≡ Err m → refused (number m) ≡ id_to_stream body at next
unfolding id_to_stream
id-refused body at next is = rw is

pub inside-within : (s : List ℕ) (part : StreamPart) → is_inside s part ≡ true → part.start.0 + part.len ≤ length s
unfolding is_inside
inside-within s part inside = leb-true (part.start.0 + part.len) (length s) inside

-- ---- what was read by index was read at a place

module _ {A : Type 0} (p : List A → Reader A) (s : List ℕ) where
  abbrev ReadSomewhere : A → ℕ → Type 0
  ReadSomewhere a e = (before : List A) × (from : ℕ) × (p before s from ≡ got a e)

  item-read : (n k at : ℕ) {a : A} {e : ℕ} → item_by_index n k p s at ≡ got a e → ReadSomewhere a e
  unfolding item_by_index
  item-read n k at {a} {e} q = go (ltb k n) q
    where
      go : (b : Bool) → cond b (bind (list_of k p s at) (λ l m. p l s m)) (refused 12) ≡ got a e → ReadSomewhere a e
      go true q = let r = bind-got (list_of k p s at) (λ l m. p l s m) q in (r.value, r.next, r.rest)
      go false q = no_answer q

  item_at-read : (k : ℕ) {a : A} {e : ℕ} → item_at k p s ≡ got a e → ReadSomewhere a e
  unfolding item_at
  item_at-read k q =
      let r = bind-got (items p s 0) (λ i next. item_by_index (length i.list) k p s (items_start s)) q in
      item-read (length r.value.list) k (items_start s) r.rest

id-read : (k : ℕ) (s : List ℕ) {g : Segment} {e : ℕ} → id_at k s ≡ got g e → (from : ℕ) × PartGiven s from 32 g e
unfolding id_at
id-read k s {g} {e} q = let r = item_at-read (λ before. part 32) s k q in (r.1, (gives_part 32).holds g e r.2)

entry_read : (cap k : ℕ) (s : List ℕ) {a : Entry} {e : ℕ} → entry_at cap k s ≡ got a e → (from : ℕ) × (entry s from ≡ got a e)
unfolding entry_at
entry_read cap k s q =
    let r = bind-got (entries cap s 0) (λ l next. item_by_index (length l) k (λ before. entry) s (entries_start s)) q in
    let x = item-read (λ before. entry) s (length r.value) k (entries_start s) r.rest in
    (x.1, x.2)

-- ---- what is read ends in the bytes, and so does the place of the first feature

module _ {s : List ℕ} {at : ℕ} where
  byte-ends : Gives s at (λ b e. e ≤ length s) byte
  byte-ends = record {
    holds = λ b e q. let t : Taken 1 _ byte = field-taken {A = ℕ} 1 1 (λ s at. get_or s at 0) in let r = t.read s at b e q in omega (arith, r.0, r.2);
  }

  payload-ends : (size : ℕ) (before : List Bodies.Payload) → Gives s at (λ p e. p.body.start + length p.body.bytes ≡ e) (payload size before)
  unfolding payload payload_after
  payload-ends size before =
      gives_then (gives-any (part 32)) (λ id next i.
      gives_then (gives-any vlq_length) (λ n next l.
      gives_then (gives-any (guard (leb (total before + n) size) 11 n)) (λ n next t.
      gives_then (gives_part n) (λ body next b.
      gives-pure (record { id = id; body = body }) b.end))))

  place-within : at ≤ length s → Gives s at (λ p e. p ≤ length s) place
  place-within h = record { holds = λ p e q. rw (← value_of q) h }

-- the first feature of an entry comes after the byte with their count
first-within : {s : List ℕ} {at : ℕ} → Gives s at (λ a e. a.first ≤ length s) entry
unfolding entry
first-within =
    gives_then (gives-any short_string) (λ agent next a.
    gives_then (gives-any version) (λ version next v.
    gives_then (gives-any short_string) (λ name next n.
    gives_then (gives-any byte) (λ flag next f.
    gives_then (gives-any (address_if flag)) (λ address next d.
    gives_then byte-ends (λ count next c.
    gives_then (place-within c) (λ first next p.
    gives_then (gives-any (list_of count (λ before. feature))) (λ features next fs.
    gives-pure (record { agent = agent; version = version; name = name; address = address; first = first; features = features }) p))))))))

-- ---- of a body in the stream

-- the place in the stream that is so many bytes after the body's start
abbrev pub place_in_stream : StreamPart → ℕ → StreamPlace
place_in_stream body at = record { 0 = body.start.0 + at }

module _ (s : List ℕ) (body : StreamPart) (fits : length s < 2 ^ 64) (inside : is_inside s body ≡ true) where
  within : body.start.0 + body.len ≤ length s
  within = inside-within s body inside

  body-length : length (part_in s body) ≡ body.len
  body-length = let w = within in simp (length-take, length-drop) (omega arith)

  -- a place of the body is as far after its start, and none is refused
  pub in_stream_lem : (at : ℕ) → at ≤ body.len → in_stream body at ≡ Ok (place_in_stream body at)
  unfolding in_stream located
  in_stream_lem at h = let w = within in rw (le-leb at body.len h, lt-ltb (body.start.0 + body.len) (2 ^ 64) (omega arith))

  -- what stands in the body stands in the stream
  pub stands-in_stream : (at : ℕ) (w : List ℕ) → StandsAt (part_in s body) at w → StandsAt s (body.start.0 + at) w
  stands-in_stream at w h =
      let l = body-length in
      let i : at + length w ≤ body.len = omega (arith, h.within) in
      let z = within in
      record {
        within = omega arith;
        bytes =
            ap (take (length w)) (sym (drop-drop at body.start.0 s)) ∙ sym (take-drop-take (length w) at body.len (drop body.start.0 s) i) ∙ h.bytes;
      }

  starts_within : (at : ℕ) (w : List ℕ) → StandsAt (part_in s body) at w → at ≤ body.len
  starts_within at w h = omega (arith, body-length, h.within)

  -- an id: its place, and the 32 bytes there
  pub id_in_stream_lem : (k : ℕ) {g : Segment} {e : ℕ} → id_at k (part_in s body) ≡ got g e
      → (got (place_in_stream body g.start) (body.start.0 + g.start + 32) ≡ id_in_stream k s body) × StandsAt s (body.start.0 + g.start) g.bytes
  unfolding id_in_stream id_to_stream
  id_in_stream_lem k {g} {e} q =
      let r = (id-read k (part_in s body) q).1 in
      let l = body-length in
      let u : g.start + 32 ≤ body.len = omega (arith, r.size, r.placed.within) in
      let e32 : g.start + 32 ≡ e = omega (arith, r.size, r.end) in
      let same : body.start.0 + g.start + 32 ≡ body.start.0 + e = omega arith in
      let from = from-got (id_to_stream body) s body (map_answer id_of (id_at k (part_in s body))) inside (ap (map_answer id_of) q ∙ map-value id_of g e) in (
        rw (in_stream_lem g.start (omega arith), in_stream_lem e (omega arith), ← same) at from,
        stands-in_stream g.start g.bytes r.placed,
      )

  -- a payload: its id and its bytes stand where they are given
  pub payload_in_stream_lem : (k : ℕ) {p : Bodies.Payload} {e : ℕ} → payload_at k (part_in s body) ≡ got p e
      → (got (stream_payload (payload_of p) (place_in_stream body p.id.start) (place_in_stream body p.body.start)) (body.start.0 + e) ≡ payload_in_stream k s body)
      × (StandsAt s (body.start.0 + p.id.start) p.id.bytes × StandsAt s (body.start.0 + p.body.start) p.body.bytes)
  unfolding payload_in_stream payload_to_stream payload_at
  payload_in_stream_lem k {p} {e} q =
      let r = item_at-read (payload (length (part_in s body))) (part_in s body) k q in
      let g = (gives-payload (length (part_in s body)) r.0).holds p e r.2 in
      let end : e ≤ body.len = omega (arith, body-length, g.1.within, (payload-ends (length (part_in s body)) r.0).holds p e r.2) in
      let i = in_stream_lem p.id.start (starts_within p.id.start p.id.bytes g.0.1) in
      let b = in_stream_lem p.body.start (starts_within p.body.start p.body.bytes g.1) in
      let from = from-got (payload_to_stream body) s body (map_answer payload_of (payload_at k (part_in s body))) inside (ap (map_answer payload_of) q ∙ map-value payload_of p e) in (
        rw (i, b, in_stream_lem e end) at from,
        (stands-in_stream p.id.start p.id.bytes g.0.1, stands-in_stream p.body.start p.body.bytes g.1),
      )

  -- an entry: so do its agent and its name
  pub entry_in_stream_lem : (cap k : ℕ) {a : Entry} {e : ℕ} → entry_at cap k (part_in s body) ≡ got a e
      → (got (stream_entry (peer_spec_of a) (place_in_stream body a.agent.start) (place_in_stream body a.name.start) (place_in_stream body a.first)) (body.start.0 + e)
      ≡ entry_in_stream cap k s body)
      × (StandsAt s (body.start.0 + a.agent.start) a.agent.bytes × StandsAt s (body.start.0 + a.name.start) a.name.bytes)
  unfolding entry_in_stream entry_to_stream
  entry_in_stream_lem cap k {a} {e} q =
      let r = entry_read cap k (part_in s body) q in
      let g = gives-entry.holds a e r.1 in
      let l = body-length in
      let end : e ≤ length (part_in s body) = stable_ends {is_cut = λ m. true} (stable_entry tt) (part_in s body) r.0 a e (omega (arith, g.0, g.1.agent.within)) r.1 in
      let x = in_stream_lem a.agent.start (starts_within a.agent.start a.agent.bytes g.1.agent) in
      let y = in_stream_lem a.name.start (starts_within a.name.start a.name.bytes g.1.name) in
      let z = in_stream_lem a.first (omega (arith, first-within.holds a e r.1)) in
      let from = from-got (entry_to_stream body) s body (map_answer peer_spec_of (entry_at cap k (part_in s body))) inside (ap (map_answer peer_spec_of) q ∙ map-value peer_spec_of a e) in (
        rw (x, y, z, in_stream_lem e (omega arith)) at from,
        (stands-in_stream a.agent.start a.agent.bytes g.1.agent, stands-in_stream a.name.start a.name.bytes g.1.name),
      )

  -- so an id that is located ends 32 bytes after its place
  pub id_at_lem : (k : ℕ) {at next : ℕ} → map_answer id_of (id_at k (part_in s body)) ≡ got at next → stream_id_answer (in_stream body at) ≡ id_in_stream k s body
  id_at_lem k q =
      let p = map-got id_of q in
      let located = in_stream_lem p.0.start (starts_within p.0.start p.0.bytes (id-read k (part_in s body) p.1).1.placed) in
      rw (← p.2, located) (id_in_stream_lem k p.1).0
