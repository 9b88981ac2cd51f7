-- Where the loops of is_sequence and after_followers stand, and one law for each way through a turn and out of it.
-- The idea: what is said of the whole is what utf8_from says of the rest, with the followers that are still due.
use Prim.Native.Nat.{ℕ, suc, ◌+◌, ◌-◌, ◌≤◌, ◌<◌}
use mathlib.Core.Bool.{Bool, false}
use mathlib.Core.List.{List, ◌∷◌}
use mathlib.Core.Path.{◌≡◌, refl, ap, sym, ◌∙◌}
use native.Mathlib.Numerals.{add-one}
use native.Mathlib.Omega.{arith}
use borrow.Author.Tests.{le-leb, lt-leb, ne_eqb}
use lib.Dec.{eqb}
use lib.ListN.{length, get_or, drop, drop_of_length-le}
use lib.Seq.{drop-cons}
use Rattle.std.proofs.Common.{Some, None}
use Rattle.vlq_utf8.specs.declared.Lead.{Lead}
use Rattle.vlq_utf8.specs.Utf8.{lead_of, utf8_from, utf8}
use Rattle.vlq_utf8.proofs.Utf8Laws.{none_due}
use Rattle.vlq_utf8.proofs.AsciiLaws.{lead_ascii}

pub record Stands (whole : Bool) (s : List ℕ) (at left low high : ℕ) : Type 0 where
  pub inside : at ≤ length s
  pub same : whole ≡ utf8_from (drop at s) left low high

pub at-start : (s : List ℕ) → Stands (utf8 s) s 0 0 0x80 0xbf
unfolding utf8
at-start s = record { inside = omega arith; same = refl }

module _ {whole : Bool} {s : List ℕ} {at left low high : ℕ} (stands : Stands whole s at left low high) (more : at < length s) where
  byte_next : whole ≡ utf8_from (get_or s at 0 ∷ drop (at + 1) s) left low high
  byte_next = stands.same ∙ rw (drop-cons s at 0 more, add-one)

  pub at_lead : (lead : Lead) → left ≡ 0 → lead_of (get_or s at 0) ≡ Some lead → Stands whole s (at + 1) lead.followers lead.low lead.high
  unfolding utf8_from
  at_lead lead h e = record { inside = omega arith; same = byte_next ∙ rw (h, e) }

  pub at_ascii : left ≡ 0 → get_or s at 0 ≤ 0x7f → Stands whole s (at + 1) left low high
  unfolding utf8_from
  at_ascii h l =
      let e = lead_ascii (get_or s at 0) (omega arith) in
      record { inside = omega arith; same = byte_next ∙ rw (h, e) (none_due (drop (at + 1) s) 0x80 0xbf low high) }

  pub at-bad : left ≡ 0 → lead_of (get_or s at 0) ≡ None → false ≡ whole
  unfolding utf8_from
  at-bad h e = sym (byte_next ∙ rw (h, e))

  module _ (due : ¬ (left ≡ 0)) where
    one_less : left ≡ suc (left - 1)
    one_less = omega arith

    pub at_low : get_or s at 0 < low → false ≡ whole
    unfolding utf8_from
    at_low h = sym (byte_next ∙ rw (one_less, lt-leb low (get_or s at 0) h))

    pub at_high : low ≤ get_or s at 0 → high < get_or s at 0 → false ≡ whole
    unfolding utf8_from
    at_high l h = sym (byte_next ∙ rw (one_less, le-leb low (get_or s at 0) l, lt-leb (get_or s at 0) high h))

    pub at-follower : low ≤ get_or s at 0 → get_or s at 0 ≤ high → Stands whole s (at + 1) (left - 1) 0x80 0xbf
    unfolding utf8_from
    at-follower l h =
        record {
          inside = omega arith;
          same =
              byte_next ∙ ap (λ (n : ℕ). utf8_from (get_or s at 0 ∷ drop (at + 1) s) n low high) one_less
              ∙ rw (le-leb low (get_or s at 0) l, le-leb (get_or s at 0) high h);
        }

pub at-end : {whole : Bool} {s : List ℕ} {at left low high : ℕ} → Stands whole s at left low high → length s ≤ at → eqb left 0 ≡ whole
unfolding utf8_from
at-end {whole} {s} stands h = sym (stands.same ∙ rw (drop_of_length-le s h))

-- the bytes end while a follower is due
pub at-cut : {whole : Bool} {s : List ℕ} {at left low high : ℕ} → Stands whole s at left low high → length s ≤ at → ¬ (left ≡ 0) → false ≡ whole
at-cut {whole} {s} {at} {left} stands h due = sym (ne_eqb left 0 due) ∙ at-end stands h

-- with no follower due, the rest is a string of its own
pub at-done : {whole : Bool} {s : List ℕ} {at left low high : ℕ} → Stands whole s at left low high → left ≡ 0 → whole ≡ utf8 (drop at s)
unfolding utf8
at-done {whole} {s} {at} {left} {low} {high} stands h =
    stands.same ∙ ap (λ (n : ℕ). utf8_from (drop at s) n low high) h ∙ none_due (drop at s) low high 0x80 0xbf

pub at-next : {whole : Bool} {s : List ℕ} {at left low high next : ℕ} → Stands whole s at left low high → next ≤ length s
    → utf8_from (drop at s) left low high ≡ utf8 (drop next s) → Stands whole s next 0 0x80 0xbf
unfolding utf8
at-next stands h e = record { inside = h; same = stands.same ∙ e }
