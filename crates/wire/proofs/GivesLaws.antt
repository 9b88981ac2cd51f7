-- What holds of all that a reader gives from a place, proved for the readers of `Reader` and for their composition: a format has it because its fields
-- have it.
use Rattle.std.specs.Prelude.{ℕ, ◌+◌, Bool, true, false, List, ◌≡◌, length, get_or}
use Rattle.std.proofs.Common.{sym, ap, ◌∙◌}
use Rattle.wire.specs.Bytes.{Each, none, more}
use Rattle.wire.specs.Reader.{got, Reader, pure, and_then, guard, byte, Segment, part, list_of}
use Rattle.wire.proofs.AnswerLaws.{no_answer, value_of, end_of_lem, bind-got}
use Rattle.wire.proofs.ReaderLaws.{Taken, field-taken, PartAt, part_at, length_part}
use Rattle.wire.specs.ReadsBack.{Placed}
use Rattle.wire.proofs.ListOfLaws as Lists
use Rattle.wire.proofs.ListOfLaws.{Listed, listed}

-- P holds of the value that p reads from a place of s, and of where it ends
pub record Gives {A : Type 0} (s : List ℕ) (at : ℕ) (P : A → ℕ → Type 0) (p : Reader A) : Type 0 where
  pub holds : (a : A) (e : ℕ) → p s at ≡ got a e → P a e

-- a part of n bytes: they stand where it was read, and it ends after them
pub record PartGiven (s : List ℕ) (at n : ℕ) (g : Segment) (e : ℕ) : Type 0 where
  pub start : g.start ≡ at
  pub size : length g.bytes ≡ n
  pub placed : Placed s g
  pub end : g.start + length g.bytes ≡ e

module _ {s : List ℕ} {at : ℕ} where
  -- one reader, and then another from where it ended
  pub gives_then : {A B : Type 0} {P : A → ℕ → Type 0} {Q : B → ℕ → Type 0} {p : Reader A} {f : A → Reader B}
      → Gives s at P p → ((a : A) (next : ℕ) → P a next → Gives s next Q (f a)) → Gives s at Q (and_then p f)
  gives_then {p = p} {f = f} hp hf = record {
    holds = λ b e q.
        let r = bind-got (p s at) (λ a n. f a s n) q in
        (hf r.value r.next (hp.holds r.value r.next r.answer)).holds b e r.rest;
  }

  -- a reader of which nothing is said
  pub gives-any : {A : Type 0} (p : Reader A) → Gives s at (λ a e. Unit {0}) p
  gives-any p = record { holds = λ a e q. tt }

  module _ {A : Type 0} {P : A → ℕ → Type 0} where
    pub gives-pure : (a : A) → P a at → Gives s at P (pure a)
    gives-pure a h = record { holds = λ b e q. rw (← value_of q, ← end_of_lem q) h }

    pub gives-guard : (b : Bool) (m : ℕ) (a : A) → P a at → Gives s at P (guard b m a)
    gives-guard true m a h = gives-pure a h
    gives-guard false m a h = record { holds = λ b e q. no_answer q }

  pub gives-byte : Gives s at (λ b e. e ≡ at + 1) byte
  gives-byte = record {
    holds = λ b e q. let t : Taken 1 _ byte = field-taken {A = ℕ} 1 1 (λ s at. get_or s at 0) in (t.read s at b e q).2;
  }

  pub gives_part : (n : ℕ) → Gives s at (PartGiven s at n) (part n)
  gives_part n = record { holds = λ g e q. go g e (part_at n s at q) }
    where
      go : (g : Segment) (e : ℕ) → PartAt n s at g e → PartGiven s at n g e
      go g e p =
          let l : length g.bytes ≡ n = ap length p.bytes ∙ length_part n s at p.inside in
          record {
            start = p.start;
            size = l;
            placed = record { within = rw (l, p.start) p.inside; bytes = rw (l, p.start) (sym p.bytes) };
            end = rw (l, p.start) (sym p.end);
          }

-- each item of a list, wherever it stands
pub gives-list_of : {A : Type 0} {s : List ℕ} {at : ℕ} {P : A → Type 0} (n : ℕ) {p : List A → Reader A}
    → ((before : List A) (at : ℕ) → Gives s at (λ a e. P a) (p before)) → Gives s at (λ l e. Each P l) (list_of n p)
gives-list_of {A} {s} {at} {P} n {p} h = record { holds = λ l e q. each (listed p s n at q).1 }
  where
    each : {before : List A} {at : ℕ} {l : List A} {e : ℕ} → Listed p s before at l e → Each P l
    each Lists.end = none
    each (Lists.next {before = before} {at = at} {n = n} {a = a} q rest) = more ((h before at).holds a n q) (each rest)
