-- Laws of short strings: the cut law, where the bytes stand, that what is written is read back, and the string's answers from tests.
use Rattle.std.specs.Prelude.{ℕ, ◌+◌, ◌-◌, ◌≤◌, ◌<◌, Bool, cond, List, [], ◌∷◌, ◌≡◌, T, length, take, drop}
use native.Mathlib.Omega.{arith}
use Rattle.std.proofs.Math.Bool.{true, false}
use Rattle.std.proofs.Common.{ap, sym, ◌∙◌}
use Rattle.wire.proofs.GivesLaws.{Gives, gives_then, gives-guard, gives-byte, gives_part}
use Rattle.wire.specs.Reader.{got, refused, part, part_of, map_answer}
use Rattle.wire.specs.declared.Part.{Part}
use Rattle.wire.proofs.ReaderLaws.{part-got, part_missing, part-outside, length_part, part_at, map-got, map-refused}
use Rattle.wire.specs.Stable.{Stable}
use Rattle.wire.proofs.StableLaws.{stable_then, stable_guard, stable_byte, stable_part}
use Rattle.wire.specs.ReadsBack.{ReadsBack, Placed}
use Rattle.wire.proofs.ReadsBackLaws.{bytes_of, reads_then, reads-last, reads-guard, reads_byte, reads-part}
use Rattle.vlq_utf8.specs.Utf8.{utf8}
use Rattle.vlq.specs.ShortString.{string, short_string, short_string_bytes}

module _ (n : ℕ) (s : List ℕ) (at : ℕ) where
  -- the code's part ends at at + n, so its length is written at + n - at
  pub string-got : (b : Bool) → at + n ≤ length s → utf8 (take (at + n - at) (drop at s)) ≡ b
      → map_answer part_of (string n s at) ≡ cond b (got (record { start = at; len = n }) (at + n)) (refused 4)
  unfolding string map_answer
  string-got true h e = let z : at + n - at ≡ n = omega arith in rw (part-got n s at h, rw z at e, length_part n s at h)
  string-got false h e = let z : at + n - at ≡ n = omega arith in rw (part-got n s at h, rw z at e)

  pub string_missing : at ≤ length s → length s < at + n → map_answer part_of (string n s at) ≡ refused 1
  unfolding string map_answer
  string_missing h g = rw (part_missing n s at h g)

  pub string-outside : length s < at → map_answer part_of (string n s at) ≡ refused 12
  unfolding string map_answer
  string-outside h = rw (part-outside n s at h)

-- a part as the code reads it
pub record CodePart (n : ℕ) (s : List ℕ) (at : ℕ) (p : Part) (next : ℕ) : Type 0 where
  pub start : p.start ≡ at
  pub inside : at + n ≤ length s
  pub end : next ≡ at + n

module _ (n : ℕ) (s : List ℕ) (at : ℕ) {p : Part} {next : ℕ} (e : got p next ≡ map_answer part_of (part n s at)) where
  pub code_part : CodePart n s at p next
  code_part =
      let m = map-got part_of (sym e) in
      let r = part_at n s at m.1 in
      record { start = sym (ap (λ (p : Part). p.start) m.2) ∙ r.start; inside = r.inside; end = r.end }

  same_string : utf8 (take (next - p.start) (drop p.start s)) ≡ utf8 (take n (drop at s))
  same_string =
      let z : next - p.start ≡ n = omega (arith, code_part.start, code_part.end) in
      rw (z, code_part.start)

  -- the string's answers, once its part is read
  pub string-read : utf8 (take (next - p.start) (drop p.start s)) ≡ true → got p next ≡ map_answer part_of (string n s at)
  unfolding string map_answer
  string-read u =
      let m = map-got part_of (sym e) in
      let w : utf8 m.0.bytes ≡ true = ap utf8 (part_at n s at m.1).bytes ∙ sym same_string ∙ u in
      rw (m.1, w) (ap (λ (p : Part). got p next) (sym m.2))

  pub string-bad : utf8 (take (next - p.start) (drop p.start s)) ≡ false → refused 4 ≡ map_answer part_of (string n s at)
  unfolding string map_answer
  string-bad u =
      let m = map-got part_of (sym e) in
      let w : utf8 m.0.bytes ≡ false = ap utf8 (part_at n s at m.1).bytes ∙ sym same_string ∙ u in
      rw (m.1, w)

pub string-refused : (n : ℕ) (s : List ℕ) (at : ℕ) {k : ℕ} → refused k ≡ map_answer part_of (part n s at) → refused k ≡ map_answer part_of (string n s at)
unfolding string map_answer
string-refused n s at e = rw (map-refused part_of (sym e))

module _ {is_cut : ℕ → Bool} (one : T (is_cut 1)) where
  pub stable_string : (n : ℕ) → Stable is_cut (string n)
  unfolding string
  stable_string n = stable_then (stable_part one n) (λ g. stable_guard (utf8 g.bytes) 4 g)

  pub stable_short_string : Stable is_cut short_string
  unfolding short_string
  stable_short_string = stable_then (stable_byte one) stable_string

module _ {s : List ℕ} {at : ℕ} where
  gives-string : (n : ℕ) → Gives s at (λ g e. (g.start ≡ at) × Placed s g) (string n)
  unfolding string
  gives-string n = gives_then (gives_part n) (λ g next h. gives-guard (utf8 g.bytes) 4 g (h.start, h.placed))

-- a short string's bytes stand after its length byte
pub gives-short_string : {s : List ℕ} {at : ℕ} → Gives s at (λ g e. (g.start ≡ at + 1) × Placed s g) short_string
unfolding short_string
gives-short_string = gives_then gives-byte (λ n next h. rw h (gives-string n))

reads-string : (w : List ℕ) → utf8 w ≡ true → ReadsBack (string (length w)) bytes_of w w
unfolding string
reads-string w h = reads-last (reads-part w) (λ g e. reads-guard (utf8 g.bytes) 4 g (ap utf8 e ∙ h) e)

-- wherever a short string stands, it is read back
pub reads-short_string : (w : List ℕ) → utf8 w ≡ true → ReadsBack short_string bytes_of (short_string_bytes w) w
unfolding short_string
reads-short_string w h = reads_then {w = length w ∷ []} {w' = w} (reads_byte (length w)) (λ n e. rw e (reads-string w h))
