-- The loops of `put_lines` and `print_report`: what is stored or printed so far, and what is to come.
use Rattle.std.proofs.Common.{◌≡◌, ℕ, ◌+◌, ◌-◌, ◌%◌, ◌^◌, ◌<◌, ◌≤◌, List, [], length, take, sym, refl, ap, ◌∙◌, arith, length-append, length-take-le}
use Rattle.std.specs.declared.ops.ControlFlow.{ControlFlow}
use Rattle.std.specs.declared.ops.ControlFlow.TheVariants.{Continue, Break}
use Rattle.wire.specs.Output.{put, Wrote}
use Rattle.wire.proofs.OutputLaws.{length-put, put-here, Writing, writing_start, writing-turn, writing-end}
use Rattle.types.specs.declared.Network.{Network}
use Rattle.types.specs.declared.StreamPlace.{StreamPlace}
use Rattle.walk.specs.Session.{session_step}
use Rattle.walk_read.specs.declared.StepRead.{StepRead}
use Rattle.walk_read.specs.Steps.{step_of}
use Rattle.report_lines.specs.StepLines.{line_of}
use Rattle.report_lines.specs.NextLines.{line_at, next_at}
use Rattle.report_lines.specs.declared.Next.{Next}
use Rattle.report.specs.Report.{Block, block_at, block_next, report_text}
use Rattle.report.proofs.ReportLaws.{lines_from, text_from, block_from, here, OneLine, one_line, text-all, block-full, lays, lays-some}

-- a line stored from the first byte of a buffer on is what stands there
line-here : (zeros line buf : List ℕ) (k : ℕ) → buf ≡ put zeros 0 line → k ≡ length line → length line ≤ length zeros → take k buf ≡ line
line-here zeros line buf k e f h = ap (λ (b : List ℕ). take k b) e ∙ ap (λ (n : ℕ). take n (put zeros 0 line)) f ∙ put-here zeros 0 line (omega arith)

-- the buffer is as long as it was
pub line-room : (zeros line : List ℕ) {buf : List ℕ} {k : ℕ} → length zeros ≡ 192 → buf ≡ put zeros 0 line → k ≤ 192 → k ≤ length buf
line-room zeros line z e h = let n = ap length e ∙ length-put zeros 0 line in omega (arith, n)

module _ (network : Network) (cap : ℕ) (s : List ℕ) where
  -- after the last step nothing is to come
  no_text : (at : ControlFlow StreamPlace StreamPlace) → ((place : StreamPlace) → at ≡ Continue place → ⊥) → text_from network cap s at ≡ []
  no_text (Continue place) h = absurd (h place refl)
  no_text (Break place) h = refl

  -- ---- `put_lines`

  module _ (out : List ℕ) (start : ℕ) where
    abbrev Whole : Block
    Whole = block_at network cap s (length out) start

    -- len bytes of the block are stored in mid, and what is to come is the block in the room that is left
    pub record Laying (mid : List ℕ) (len : ℕ) (next : ControlFlow StreamPlace StreamPlace) : Type 0 where
      pub writing : Writing out 0 Whole.text len mid (block_from network cap s (length out - len) next).text
      pub place : (block_from network cap s (length out - len) next).at ≡ Whole.at
      pub fits : len ≤ length out

    pub laying_start : Laying out 0 (here network cap s start)
    laying_start =
        let e : length out - 0 ≡ length out = omega arith in
        record { writing = rw e (writing_start out 0 Whole.text); place = rw e; fits = omega arith }

    laying_line : {mid : List ℕ} {len at : ℕ} {line : List ℕ} {next : ControlFlow StreamPlace StreamPlace} → 192 ≤ length out - len → Laying mid len (here network cap s at)
        → OneLine network cap s at line next → length line ≤ 192 → {left : List ℕ} → Wrote mid len line (len + length line) left
        → Laying left (len + length line) next
    laying_line {len = len} {line = line} g l o h w =
        let e = o.laid (length out - len) g in
        let d : length out - len - length line ≡ length out - (len + length line) = omega arith in
        record {
          writing = rw (← d) (writing-turn line _ (ap (λ (b : Block). b.text) e) l.writing w);
          place = rw (← d) (sym (ap (λ (b : Block). b.at) e) ∙ l.place);
          fits = omega arith;
        }

    -- a turn stores one line
    pub laying_turn : {mid : List ℕ} {len : ℕ} {place : StreamPlace} (next : Next) (zeros buf : List ℕ) → length zeros ≡ 192
        → next ≡ next_at network cap s place.0
        → buf ≡ put zeros 0 (line_at network cap s place.0)
        → next.len ≤ 192 → 192 ≤ length mid - len → Laying mid len (Continue place)
        → {e : ℕ} {left : List ℕ} → Wrote mid len (take next.len buf) e left
        → Laying left e next.at × (lines_from network cap s next.at < lines_from network cap s (Continue place))
    laying_turn {mid} {len} {place} next zeros buf z e f k g l w =
        let step : StepRead = step_of network s (session_step network cap s place.0) in
        let line : List ℕ = line_of step (length s) in
        let n : next.len ≡ length line = ap (λ (x : Next). x.len) e in
        let w' : Wrote mid len line _ _ = rw (line-here zeros line buf next.len f n (omega arith)) at w in
        let o : OneLine network cap s place.0 line next.at = rw e (one_line network cap s place.0) in
        (rw w'.end (laying_line (omega (arith, l.writing.size)) l o (omega arith) (rw w'.end at w')), omega (arith, o.counted))

    -- what `put_lines` gives and leaves
    abbrev pub Over : List ℕ → ℕ → ControlFlow StreamPlace StreamPlace → Type 0
    Over mid len at =
        (record { len = len; at = at } ≡ block_next Whole)
        × ((mid ≡ put out 0 Whole.text)
        × ((len ≤ length mid) × (len ≡ length (take len mid))))

    laying_over : {mid : List ℕ} {len : ℕ} {at : ControlFlow StreamPlace StreamPlace} → Laying mid len at
        → block_from network cap s (length out - len) at ≡ record { text = []; at = at } → Over mid len at
    laying_over {mid} {len} {at} l e =
        let w = writing-end (ap (λ (b : Block). b.text) e) l.writing in
        let k : len ≡ length Whole.text = omega (arith, w.end) in
        let p : at ≡ Whole.at = sym (ap (λ (b : Block). b.at) e) ∙ l.place in
        let r : len ≤ length mid = omega (arith, l.fits, l.writing.size) in
        (record_of k p, (w.bytes, (r, sym (length-take-le len mid r))))
      where
        record_of : {len : ℕ} {at : ControlFlow StreamPlace StreamPlace} → len ≡ length Whole.text → at ≡ Whole.at → record { len = len; at = at } ≡ block_next Whole
        record_of k p = cc

    -- after the last line, and where no longest line has room
    pub laying_last : {mid : List ℕ} {len : ℕ} {place : StreamPlace} → Laying mid len (Break place) → Over mid len (Break place)
    laying_last l = laying_over l refl

    pub laying_full : {mid : List ℕ} {len : ℕ} {place : StreamPlace} → length mid - len < 192 → Laying mid len (Continue place) → Over mid len (Continue place)
    laying_full {len = len} {place = place} g l = laying_over l (block-full network cap s (length out - len) place.0 (omega (arith, l.writing.size)))

  -- ---- `print_report`

  -- so many bytes are printed, modulo 2^64, and the others are to come
  pub record Printed (at : ControlFlow StreamPlace StreamPlace) (printed : ℕ) : Type 0 where
    pub counted : (printed + length (text_from network cap s at)) % 2 ^ 64 ≡ length (report_text network cap s) % 2 ^ 64
    pub fits : printed < 2 ^ 64

  pub print_start : Printed (here network cap s 0) 0
  print_start = record { counted = rw (text-all network cap s) (omega arith); fits = omega arith }

  -- a turn prints one block
  pub print_turn : {place : StreamPlace} {at : ControlFlow StreamPlace StreamPlace} {printed total : ℕ} (next : Next) (room : ℕ) → room ≡ 65536
      → next ≡ block_next (block_at network cap s room place.0) → at ≡ Continue place
      → Printed at printed
      → total ≡ (printed + next.len) % 2 ^ 64
      → Printed next.at total × (lines_from network cap s next.at < lines_from network cap s at)
  print_turn {place} next room z e m p t =
      let b : Block = block_at network cap s room place.0 in
      let l = ap length (lays network cap s room place.0).told ∙ length-append b.text (text_from network cap s b.at) in
      let c = rw m at p.counted in
      let u = rw e at t in
      rw (e, m) (record { counted = omega (arith, c, l, u); fits = omega (arith, u) }, lays-some network cap s room place.0 (omega (arith, z)))

  pub print_end : {at : ControlFlow StreamPlace StreamPlace} {printed : ℕ} → ((place : StreamPlace) → at ≡ Continue place → ⊥) → Printed at printed → printed ≡ length (report_text network cap s) % 2 ^ 64
  print_end {at} h p = let c = rw (no_text at h) at p.counted in omega (arith, c, p.fits)
