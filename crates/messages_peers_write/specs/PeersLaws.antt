-- Laws of the writer of Peers: what is said by sizes is what `message_written` says, and what is known once it
-- accepted.
use Rattle.std.specs.Prelude.{ℕ, ◌+◌, ◌-◌, ◌/◌, ◌≤◌, Bool, true, false, ◌&&◌, ◌≡◌, leb, take, drop}
use Rattle.std.proofs.Common.{arith, true≢false, sym, ◌∙◌, length-append}
use mathlib.Core.List.{List, [], ◌∷◌, ◌++◌, flat_map}
use Rattle.std.proofs.Math.Path.{refl, ap}
use Rattle.std.proofs.Math.ListN.{length}
use Rattle.std.proofs.lemmas.List.{length-map}
use borrow.Author.Tests.{le-leb, lt-leb, leb-true, leb-false}
use Rattle.wire.specs.Bytes.{every}
use Rattle.wire.proofs.BytesLaws.{and-true}
use Rattle.wire.specs.Output.{Written, To, Unsized, put, ask, asked, sized, written, output_after, Wrote}
use Rattle.wire.proofs.OutputLaws.{Accepted, length-put, wrote_length, wrote_checked, written-accepted}
use Rattle.wire.proofs.StandingLaws.{after-put, put-behind}
use Rattle.vlq.specs.Vlq.{limit, vlq_bytes}
use Rattle.vlq.proofs.VlqLaws.{vlq_pos}
use Rattle.types.specs.declared.Network.{Network}
use Rattle.frame.specs.Frame.{frame_bytes}
use Rattle.frame_write.specs.Asked.{frame_length, frame_written_for}
use Rattle.frame_write.specs.FrameWriteLaws.{length-frame, frame_length-body, closed}
use Rattle.handshake.specs.Value.{entry_bytes, short_strings, utf8_strings, few_features, lengths_within, entries_asked}
use Rattle.handshake.specs.Tables.{Tables, entry_row, entry_rows, entry_from_row, entries_of, tables_whole, entry_inside}
use Rattle.handshake.proofs.RowsLaws.{length-rows}
use Rattle.wire_output.specs.Asked.{output_asked}
use Rattle.wire_output.specs.CheckedLaws.{kept_unaccepted}
use Rattle.handshake_entry_ask.specs.Asked.{rows_asked, entries_size}
use Rattle.handshake_entry_write.specs.Rows.{rows_written}
use Rattle.messages.specs.Value as Values
use Rattle.messages.specs.Value.{code_of, body_bytes, payloads_within, count_within, code_free, message_asked}
use Rattle.messages.specs.Writes.{write_peers, value_of, message_whole, message_inside, message_written}
use Rattle.messages_peers_write.specs.Asked.{peers_bytes, peers_refusal, peers_start}

-- ---- lengths

pub length-entries : (l : Tables) → length (entries_of l) ≡ length l.entries / 12
unfolding entries_of
length-entries l = length-map (entry_rows l) (entry_from_row l) ∙ length-rows (entry_row l.entries) 0 (length l.entries / 12)

-- the count and the entries
pub peers_parts : (l : Tables) → peers_bytes l ≡ vlq_bytes (length l.entries / 12) ++ flat_map entry_bytes (entries_of l)
unfolding body_bytes
peers_parts l = rw (length-entries l)

pub length-peers : (l : Tables) → length (peers_bytes l) ≡ length (vlq_bytes (length l.entries / 12)) + length (flat_map entry_bytes (entries_of l))
length-peers l = ap length (peers_parts l) ∙ length-append (vlq_bytes (length l.entries / 12)) (flat_map entry_bytes (entries_of l))

-- ---- where the frame starts

pub start-room : (cap count len at : ℕ) → peers_start cap count len at ≡ true → at + (13 + length (vlq_bytes count)) ≤ len
unfolding peers_start
start-room cap count len at start = leb-true (at + (13 + length (vlq_bytes count))) len (and-true (leb (at + (13 + length (vlq_bytes count))) len) (leb count cap) start).0

-- it does: the writer says what is said of the entries where they stand
pub rows-peers : (network : Network) (cap : ℕ) (l : Tables) (out : List ℕ) (at : ℕ) → peers_start cap (length l.entries / 12) (length out) at ≡ true
    → let v = length (vlq_bytes (length l.entries / 12)) in rows_written l v out (at + 13 + v) ≡ message_written network cap (write_peers l) out at
unfolding peers_start rows_written entries_asked message_written written asked message_whole message_inside message_asked value_of Values.message_entries payloads_within count_within code_free code_of
rows-peers network cap l out at start =
    let count = length l.entries / 12 in
    let v = length (vlq_bytes count) in
    let n = length (flat_map entry_bytes (entries_of l)) in
    let h = and-true (leb (at + (13 + v)) (length out)) (leb count cap) start in
    let room = leb-true (at + (13 + v)) (length out) h.0 in
    let end : at + (13 + (v + n)) ≡ at + 13 + v + n = omega arith in
    rw (
      le-leb (at + 13 + v) (length out) (omega arith),
      le-leb at (length out) (omega arith),
      length-frame network 2 (peers_bytes l),
      length-peers l,
      length-entries l,
      h.1,
      frame_length-body (v + n) (omega (arith, vlq_pos count)),
      end,
    )

-- it does not: what refuses, in the order of the questions, which have no room at the end
in_order_lem : (len at n : ℕ) (a b c d e f within g room : Bool) (w : Written) → (within ≡ true → room ≡ false)
    → output_asked len at
    (Unsized (peers_refusal within (sized (ask 16 a ∷ ask 12 b ∷ ask 13 c ∷ ask 4 d ∷ ask 15 e ∷ ask 3 f ∷ ask 7 g ∷ []) n)))
    ≡ asked
    (ask 16 a ∷ ask 12 (leb at len) ∷ ask 12 b ∷ ask 13 c ∷ ask 4 d ∷ ask 15 e ∷ ask 3 f ∷ ask 10 within ∷ ask 7 g ∷ ask 14 room ∷ []) w
unfolding output_asked peers_refusal sized asked
in_order_lem len at n false b c d e f within g room w h = refl
in_order_lem len at n true false c d e f within g room w h = refl
in_order_lem len at n true true false d e f within g room w h = refl
in_order_lem len at n true true true false e f within g room w h = refl
in_order_lem len at n true true true true false f within g room w h = refl
in_order_lem len at n true true true true true false within g room w h = refl
in_order_lem len at n true true true true true true false true room w h = refl
in_order_lem len at n true true true true true true false false room w h = refl
in_order_lem len at n true true true true true true true true room w h = rw (h refl)
in_order_lem len at n true true true true true true true false room w h = refl

other_no : (t u : Bool) → t && u ≡ false → u ≡ true → t ≡ false
other_no true u e h = sym h ∙ e
other_no false u e h = refl

pub refused-peers : (network : Network) (cap : ℕ) (l : Tables) (out : List ℕ) (at : ℕ) → peers_start cap (length l.entries / 12) (length out) at ≡ false
    → let count = length l.entries / 12 in
    output_asked (length out) at (Unsized (peers_refusal (leb count cap) (entries_size l (length (vlq_bytes count))))) ≡ message_written network cap (write_peers l) out at
unfolding peers_start entries_size entries_asked message_written written asked message_whole message_inside message_asked value_of Values.message_entries payloads_within count_within code_free code_of
refused-peers network cap l out at start =
    let count = length l.entries / 12 in
    let v = length (vlq_bytes count) in
    let n = length (flat_map entry_bytes (entries_of l)) in
    in_order_lem (length out) at n (tables_whole l) (every (entry_inside l) (entry_rows l)) (every short_strings (entries_of l)) (every utf8_strings (entries_of l))
    (every few_features (entries_of l)) (every lengths_within (entries_of l)) (leb count cap) (leb (v + n) limit) (leb (at + frame_length (v + n)) (length out))
    (To (at + frame_length (v + n)))
    (λ (within : leb count cap ≡ true).
    let none = leb-false (at + (13 + v)) (length out) (other_no _ _ start within) in
    lt-leb (at + frame_length (v + n)) (length out) (omega (arith, none, frame_length-body (v + n) (omega (arith, vlq_pos count)))))
    ∙ rw (length-frame network 2 (peers_bytes l), length-peers l, length-entries l)

-- the writer refuses, and the output is as it was
pub not-started : (network : Network) (cap : ℕ) (l : Tables) (out : List ℕ) (at : ℕ) (bs : List ℕ) (r : Written) → r ≡ message_written network cap (write_peers l) out at
    → peers_start cap (length l.entries / 12) (length out) at ≡ false → out ≡ output_after r out at bs
unfolding peers_start message_written message_whole message_inside message_asked value_of code_of Values.message_entries entries_asked count_within
not-started network cap l out at bs r says start =
    kept_unaccepted r out at bs (λ (e : ℕ) (p : r ≡ To e).
    let count = length l.entries / 12 in
    let v = length (vlq_bytes count) in
    let n = length (flat_map entry_bytes (entries_of l)) in
    let h = written-accepted _ _ out at _ e (sym says ∙ p) in
    let within : leb count cap ≡ true = rw (length-entries l) at h.rest.1.1.1.1.1.1.0 in
    let size = frame_length-body (v + n) (omega (arith, vlq_pos count)) in
    let room : at + (13 + v) ≤ length out = omega (arith, h.room, length-frame network 2 (peers_bytes l), ap frame_length (length-peers l), size) in
    let z : true ≡ false = rw (le-leb (at + (13 + v)) (length out) room, within) at start in
    true≢false z)

-- ---- what was stored

-- the entries were stored where they stand in the frame
module _ (network : Network) (l : Tables) (out : List ℕ) (at : ℕ) {r : Written} {e : ℕ} {one : List ℕ}
    (says : r ≡ rows_written l (length (vlq_bytes (length l.entries / 12))) out (at + 13 + length (vlq_bytes (length l.entries / 12))))
    (left : one ≡ output_after r out (at + 13 + length (vlq_bytes (length l.entries / 12))) (flat_map entry_bytes (entries_of l))) (p : r ≡ To e)
  where
    abbrev count : List ℕ
    count = vlq_bytes (length l.entries / 12)

    abbrev rows : List ℕ
    rows = flat_map entry_bytes (entries_of l)

    yes : Accepted (ask 16 (tables_whole l) ∷ []) (rows_asked l (length count)) out (at + 13 + length count) rows e
    unfolding rows_written
    yes = written-accepted _ _ out (at + 13 + length count) rows e (sym says ∙ p)

    pub body_end : e ≡ at + 13 + length (peers_bytes l)
    body_end = omega (arith, yes.end, length-peers l)

    small : length (peers_bytes l) ≤ limit
    unfolding entries_asked
    small = omega (arith, leb-true (length count + length rows) limit yes.rest.1.1.1.1.1.0, length-peers l)

    frame-room : at + frame_length (length (peers_bytes l)) ≤ length out
    frame-room = omega (arith, yes.room, length-peers l, frame_length-body (length (peers_bytes l)) (omega (arith, length-peers l, vlq_pos (length l.entries / 12))))

    -- then the count before them
    module _ {f : ℕ} {two : List ℕ} (w : Wrote one (at + 13) count f two) where
      body_stored : Wrote out (at + 13) (peers_bytes l) (at + 13 + length (peers_bytes l)) two
      unfolding output_after
      body_stored =
          let q : one ≡ put out (at + 13 + length count) rows = rw p at left in
          record {
            end = refl;
            bytes = w.bytes ∙ ap (λ (o : List ℕ). put o (at + 13) count) q ∙ put-behind out (at + 13) count rows (at + 13 + length count) refl yes.room ∙ ap (put out (at + 13)) (sym (peers_parts l));
          }

      -- and then the frame was closed around both
      pub frame_closed : {t : Written} {last : List ℕ} → t ≡ frame_written_for (length two) at (e - (at + 13))
          → last ≡ output_after t two at (frame_bytes network 2 (take (e - (at + 13)) (drop (at + 13) two)))
          → (t ≡ To e) × (last ≡ output_after t out at (frame_bytes network 2 (peers_bytes l)))
      unfolding frame_written_for asked
      frame_closed says3 left3 =
          let n = length (peers_bytes l) in
          let z : e - (at + 13) ≡ n = omega (arith, body_end) in
          let size = wrote_length body_stored in
          let end : at + frame_length n ≡ e = omega (arith, body_end, frame_length-body n (omega (arith, length-peers l, vlq_pos (length l.entries / 12)))) in
          let q = rw z at says3
          ∙ rw (le-leb at (length two) (omega (arith, size, yes.room)), le-leb n limit small, le-leb (at + frame_length n) (length two) (omega (arith, size, frame-room)))
          (ap To end) in
          (q, after-put out at (frame_bytes network 2 (peers_bytes l)) q (closed network 2 out at (peers_bytes l) frame-room body_stored small (rw z at says3) (rw z at left3)))

    -- the same where the writer of the count was called, and said s
    module _ {s : Written} {two : List ℕ} (says2 : s ≡ written [] [] one (at + 13) count) (left2 : two ≡ output_after s one (at + 13) count) where
      count_wrote : Wrote one (at + 13) count (at + 13 + length count) two
      unfolding output_after
      count_wrote =
          let q : one ≡ put out (at + 13 + length count) rows = rw p at left in
          let size : length one ≡ length out = ap length q ∙ length-put out (at + 13 + length count) rows in
          wrote_checked [] [] one (at + 13) count says2 left2 tt tt (omega (arith, yes.room))

      pub frame_stored : {t : Written} {last : List ℕ} → t ≡ frame_written_for (length two) at (e - (at + 13))
          → last ≡ output_after t two at (frame_bytes network 2 (take (e - (at + 13)) (drop (at + 13) two)))
          → last ≡ output_after (To e) out at (frame_bytes network 2 (peers_bytes l))
      frame_stored says3 left3 = let h = frame_closed count_wrote says3 left3 in rw h.0 at h.1
