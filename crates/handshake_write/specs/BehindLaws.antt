-- Laws of bytes before a value that stands behind them.
use Rattle.std.specs.Prelude.{ℕ, ◌+◌, ◌≤◌, ◌<◌, Bool, true, false, cond, List, ◌++◌, ◌≡◌, refl, leb}
use Rattle.std.proofs.Common.{arith, sym, ap, ◌∙◌}
use Rattle.std.proofs.Math.ListN.{length, length-append}
use borrow.Author.Tests.{leb-true, leb-false, le-leb, lt-leb}
use Rattle.wire.specs.Output.{put, Question, asked, written, output_after, Written, To, Refused, Wrote}
use Rattle.wire.proofs.OutputLaws.{in_order_lem, written-accepted, wrote_length, wrote_to, wrote_refused}
use Rattle.wire.proofs.StandingLaws.{put-behind, after-put, after-refused}
use Rattle.handshake.specs.Value.{EntryValue, entry_bytes}
use Rattle.handshake_write.specs.Behind.{behind}

-- ---- the place

behind-room : (len at v : ℕ) → at + v ≤ len → behind len at v ≡ at + v
unfolding behind
behind-room len at v h = rw (le-leb (at + v) len h)

end-inside : (len at : ℕ) (t : Bool) → leb at len ≡ t → leb (cond t len at) len ≡ t
end-inside len at true e = le-leb len len (omega arith)
end-inside len at false e = e

end_late : (len at : ℕ) (t : Bool) → leb at len ≡ t → len ≤ cond t len at
end_late len at true e = omega arith
end_late len at false e = omega (arith, leb-false at len e)

-- without room it is in the output where the first is, and at its end or further
module _ (len at v : ℕ) (h : len < at + v) where
  behind-inside : leb (behind len at v) len ≡ leb at len
  unfolding behind
  behind-inside = rw (lt-leb (at + v) len h) (end-inside len at (leb at len) refl)

  behind_late : len ≤ behind len at v
  unfolding behind
  behind_late = rw (lt-leb (at + v) len h) (end_late len at (leb at len) refl)

-- ---- bytes a before bytes b that stand behind them, in an output from a place on

module _ (before after : List Question) (out : List ℕ) (at m : ℕ) (a b : List ℕ) (p : m ≡ behind (length out) at (length a)) (some : 1 ≤ length b) where
  with-room : at + length a ≤ length out → written before after out m b ≡ written before after out at (a ++ b)
  unfolding written
  with-room h =
      let q : m ≡ at + length a = p ∙ behind-room (length out) at (length a) h in
      let end : m + length b ≡ at + length (a ++ b) = omega (arith, q, length-append a b) in
      rw (end, le-leb m (length out) (omega (arith, q, h)), le-leb at (length out) (omega (arith, h)))

  no_room : (i : ℕ) (bs : List ℕ) → length out < i + length bs
      → written before after out i bs ≡ asked before (cond (leb i (length out)) (asked after (Refused 14)) (Refused 12))
  no_room i bs h = in_order_lem before after out i bs ∙ rw (lt-leb (i + length bs) (length out) h)

  without-room : length out < at + length a → written before after out m b ≡ written before after out at (a ++ b)
  without-room h =
      let inside : leb m (length out) ≡ leb at (length out) = ap (λ (i : ℕ). leb i (length out)) p ∙ behind-inside (length out) at (length a) h in
      no_room m b (omega (arith, p, some, behind_late (length out) at (length a) h))
      ∙ rw inside (sym (no_room at (a ++ b) (omega (arith, h, length-append a b))))

  written_behind : written before after out m b ≡ written before after out at (a ++ b)
  written_behind = go (leb (at + length a) (length out)) refl
    where
      go : (t : Bool) → leb (at + length a) (length out) ≡ t → written before after out m b ≡ written before after out at (a ++ b)
      go true e = with-room (leb-true (at + length a) (length out) e)
      go false e = without-room (leb-false (at + length a) (length out) e)

  stands-behind : m + length b ≤ length out → m ≡ at + length a
  stands-behind h = go (leb (at + length a) (length out)) refl
    where
      go : (t : Bool) → leb (at + length a) (length out) ≡ t → m ≡ at + length a
      go true e = p ∙ behind-room (length out) at (length a) (leb-true (at + length a) (length out) e)
      go false e = absurd (omega (arith, p, h, some, behind_late (length out) at (length a) (leb-false (at + length a) (length out) e)))

  -- the writer of b was called, said r and left mid
  module _ {r : Written} {mid : List ℕ} (says : r ≡ written before after out m b) (left : mid ≡ output_after r out m b) where
    -- there is room for a before them
    pub behind-room_left : {e : ℕ} → r ≡ To e → at + length a ≤ length mid
    behind-room_left {e} q =
        let w = wrote_to before after out m b says left e q in
        let room = (written-accepted before after out m b e (sym says ∙ q)).room in
        omega (arith, stands-behind room, room, wrote_length w)

    pub behind_stored : {e n : ℕ} {last : List ℕ} → r ≡ To e → Wrote mid at a n last
        → (r ≡ written before after out at (a ++ b)) × (last ≡ output_after r out at (a ++ b))
    behind_stored {e} q front =
        let w = wrote_to before after out m b says left e q in
        let room = (written-accepted before after out m b e (sym says ∙ q)).room in
        let stands = stands-behind room in (
          says ∙ written_behind,
          after-put out at (a ++ b) q (front.bytes ∙ ap (λ (o : List ℕ). put o at a) w.bytes ∙ put-behind out at a b m stands room),
        )

    pub behind-refused : {e : ℕ} → r ≡ Refused e → (r ≡ written before after out at (a ++ b)) × (mid ≡ output_after r out at (a ++ b))
    behind-refused {e} q = (says ∙ written_behind, wrote_refused before after out m b says left e q ∙ after-refused at (a ++ b) q)

-- an entry has bytes
pub entry-some : (e : EntryValue) → 1 ≤ length (entry_bytes e)
unfolding entry_bytes
entry-some e = omega arith
