-- What an accepted write wrote is read back from its place: the reading has the value written, and ends where the write ended.
use Rattle.std.specs.Prelude.{ℕ, ◌^◌, ◌≤◌, ◌<◌, List, [], ◌∷◌, ◌≡◌, length}
use Rattle.std.proofs.Math.Path.{ap}
use Rattle.std.proofs.Common.{sym, ◌∙◌}
use Rattle.wire.specs.Output.{To, put, Question, written, output_after}
use Rattle.wire.specs.Reader.{got, Reader, byte, Segment, part}
use Rattle.wire.proofs.OutputLaws.{written-accepted}
use Rattle.wire.specs.ReadsBack.{ReadsBack}
use Rattle.wire.proofs.ReadsBackLaws.{stands-put, reads_byte, reads-part}
use Rattle.vlq.specs.Vlq.{vlq, limit, vlq_length, vlq_bytes}
use Rattle.vlq.proofs.VlqLaws.{reads-vlq, reads-vlq_length}
use Rattle.vlq.specs.ShortString.{short_string, short_string_bytes}
use Rattle.vlq.proofs.ShortStringLaws.{reads-short_string}
use Rattle.vlq_write.specs.Asked.{short_string_asked}

-- the output after a writer of the bytes bs
abbrev pub output_of : List Question → List Question → List ℕ → ℕ → List ℕ → List ℕ
output_of before after out at bs = output_after (written before after out at bs) out at bs

module _ (before after : List Question) (out : List ℕ) (at e : ℕ) where
  pub written_back : {A X : Type 0} {p : Reader A} {see : A → X} {bs : List ℕ} {v : X} → ReadsBack p see bs v → written before after out at bs ≡ To e
      → (a : A) × (p (output_of before after out at bs) at ≡ got a e) × (see a ≡ v)
  unfolding output_after
  written_back {bs = bs} b q =
      let h = written-accepted before after out at bs e q in
      let r = b.reads (put out at bs) at (stands-put out at bs h.room) in
      (r.0, rw q (r.1 ∙ ap (got r.0) (sym h.end)), r.2)

  -- where the reading is the value
  pub written-back-value : {A : Type 0} {p : Reader A} {bs : List ℕ} {v : A} → ReadsBack p (λ x. x) bs v → written before after out at bs ≡ To e
      → p (output_of before after out at bs) at ≡ got v e
  written-back-value b q = let r = written_back b q in r.1 ∙ ap (λ a. got a e) r.2

module _ (out : List ℕ) (at e : ℕ) where
  pub vlq-written-back : (v : ℕ) → v < 2 ^ 64 → written [] [] out at (vlq_bytes v) ≡ To e → vlq (output_of [] [] out at (vlq_bytes v)) at ≡ got v e
  vlq-written-back v h q = written-back-value [] [] out at e (reads-vlq v h) q

  pub vlq_length-written-back : (v : ℕ) → v ≤ limit → written [] [] out at (vlq_bytes v) ≡ To e → vlq_length (output_of [] [] out at (vlq_bytes v)) at ≡ got v e
  vlq_length-written-back v h q = written-back-value [] [] out at e (reads-vlq_length v h) q

  pub byte-written-back : (b : ℕ) → written [] [] out at (b ∷ []) ≡ To e → byte (output_of [] [] out at (b ∷ [])) at ≡ got b e
  byte-written-back b q = written-back-value [] [] out at e (reads_byte b) q

  pub part-written-back : (s : List ℕ) → written [] [] out at s ≡ To e
      → (g : Segment) × (part (length s) (output_of [] [] out at s) at ≡ got g e) × (g.bytes ≡ s)
  part-written-back s q = written_back [] [] out at e (reads-part s) q

  -- a short string that was accepted is UTF-8
  pub short_string-written-back : (s : List ℕ) → written [] (short_string_asked s) out at (short_string_bytes s) ≡ To e
      → (g : Segment) × (short_string (output_of [] (short_string_asked s) out at (short_string_bytes s)) at ≡ got g e) × (g.bytes ≡ s)
  short_string-written-back s q =
      let h = written-accepted [] (short_string_asked s) out at (short_string_bytes s) e q in
      written_back [] (short_string_asked s) out at e (reads-short_string s h.rest.1.0) q
