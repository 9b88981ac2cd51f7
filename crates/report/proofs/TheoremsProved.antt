-- The theorems, from the laws of the report.
use Rattle.std.specs.Prelude.{◌≡◌, ℕ, zero, suc, ◌≤◌, Bool, true, false, cond, List, [], ◌∷◌, ◌++◌, length, ◌≢◌, nat_lt, slice_index, refl}
use Rattle.std.specs.declared.ops.ControlFlow.{ControlFlow}
use Rattle.std.specs.declared.ops.ControlFlow.TheVariants.{Continue, Break}
use Rattle.std.proofs.Common.{arith, sym, ap, ◌∙◌}
use mathlib.Core.List.{flat_map, append_assoc, append-nil}
use Rattle.types.specs.declared.Network.{Network}
use Rattle.types.specs.declared.Network.TheVariants.{Mainnet}
use Rattle.types.specs.declared.StreamPlace.{StreamPlace}
use Rattle.walk.specs.Walk as Walk
use Rattle.walk.specs.Walk.{Item, Ending, clean, stopped, unended}
use Rattle.walk.specs.Session.{Fields, handshake_fields, message_fields, Verdict, peer_verdict, peers_verdict, no_verdict, Content, session_reading}
use Rattle.wire_text_write.specs.Text.{ascii}
use Rattle.report_text.specs.Lines.{labelled_number, span, handshake_line, message_text, message_line, peers_line, stop_line, end_line}
use Rattle.report_lines.specs.StepLines.{stop_text}
use Rattle.report_lines.specs.NextLines.{line_at, next_at}
use Rattle.report.specs.Report.{content_line, item_line, ending_line, report_text, session_text, Block, block_at}
use Rattle.report.specs.Theorems as Theorems
use Rattle.report.specs.Theorems.{LinesFrom, BlocksFrom, LinesAreReport, BlocksAreReport, NeverUnread}
use Rattle.report.proofs.ReportLaws.{lines_from, text_from, here, OneLine, one_line, text-all, lays}

module _ (network : Network) (cap : ℕ) (s : List ℕ) where
  lines_text : {at : ℕ} {text : List ℕ} → LinesFrom network cap s at text → text ≡ text_from network cap s (here network cap s at)
  lines_text {at} (Theorems.more next m rest) =
      let o = rw m at (one_line network cap s at) in
      ap (λ (t : List ℕ). line_at network cap s at ++ t) (lines_text rest) ∙ sym o.told
  lines_text {at} (Theorems.last place m) =
      let o = rw m at (one_line network cap s at) in
      sym (append-nil (line_at network cap s at)) ∙ sym o.told

  blocks_text : {at : ℕ} {text : List ℕ} → BlocksFrom network cap s at text → text ≡ text_from network cap s (here network cap s at)
  blocks_text {at} (Theorems.more room next m rest) =
      let b : Block = block_at network cap s room at in
      ap (λ (t : List ℕ). b.text ++ t) (blocks_text rest)
      ∙ ap (λ (x : ControlFlow StreamPlace StreamPlace). b.text ++ text_from network cap s x) (sym m)
      ∙ sym (lays network cap s room at).told
  blocks_text {at} (Theorems.last room place m) =
      let b : Block = block_at network cap s room at in
      sym (append-nil b.text)
      ∙ ap (λ (x : ControlFlow StreamPlace StreamPlace). b.text ++ text_from network cap s x) (sym m)
      ∙ sym (lays network cap s room at).told

  text_lines : (c at : ℕ) → lines_from network cap s (here network cap s at) ≤ c → LinesFrom network cap s at (text_from network cap s (here network cap s at))
  text_lines zero at h = absurd (omega arith)
  text_lines (suc c) at h = go (text_lines c) (next_at network cap s at).at refl (one_line network cap s at)
    where
      go : ((end : ℕ) → lines_from network cap s (here network cap s end) ≤ c → LinesFrom network cap s end (text_from network cap s (here network cap s end)))
          → (next : ControlFlow StreamPlace StreamPlace) → (next_at network cap s at).at ≡ next → OneLine network cap s at (line_at network cap s at) next
          → LinesFrom network cap s at (text_from network cap s (here network cap s at))
      go rest (Continue next) m o = rw o.told (Theorems.more next m (rest next.0 (omega (arith, o.counted))))
      go rest (Break place) m o = rw (o.told, append-nil) (Theorems.last place m)

module _ (network : Network) (cap : ℕ) where
  pub lines_are_report : LinesAreReport network cap
  lines_are_report s text = (
    λ l. lines_text network cap s l ∙ text-all network cap s,
    λ e. rw (e, ← text-all network cap s) (text_lines network cap s (lines_from network cap s (here network cap s 0)) 0 (omega arith)),
  )

  pub blocks_are_report : BlocksAreReport network cap
  blocks_are_report s text b = blocks_text network cap s b ∙ text-all network cap s

-- ---- no line of a report begins as `unread` does

abbrev first : List ℕ → ℕ
first l = slice_index l 0

content-first : (start end : ℕ) (f : Fields) (v : Verdict) (rest : List ℕ) → first (content_line start end f v ++ rest) ≢ 117
unfolding content_line handshake_line peers_line message_line message_text span labelled_number
content-first start end (handshake_fields h) v rest e = absurd (omega arith)
content-first start end (message_fields code from m) (peers_verdict n b) rest e = absurd (omega arith)
content-first start end (message_fields code from m) (peer_verdict v) rest e = absurd (omega arith)
content-first start end (message_fields code from m) no_verdict rest e = absurd (omega arith)

ending-first : (n : ℕ) (e : Ending) → first (ending_line n e) ≢ 117
unfolding ending_line end_line stop_line stop_text span labelled_number
ending-first n clean e = absurd (omega arith)
ending-first n (stopped Walk.handshake m at) e = absurd (omega arith)
ending-first n (stopped Walk.frame m at) e = absurd (omega arith)
ending-first n (stopped Walk.body m at) e = absurd (omega arith)
ending-first n unended e = absurd (omega arith)

reading-first : (n : ℕ) (is : List (Item Content)) (e : Ending) → first (flat_map item_line is ++ ending_line n e) ≢ 117
unfolding flat_map
reading-first n [] e q = ending-first n e q
reading-first n (i ∷ is) e q =
    content-first i.start i.end i.holds.fields i.holds.verdict (flat_map item_line is ++ ending_line n e)
    (ap first (sym (append_assoc (item_line i) (flat_map item_line is) (ending_line n e))) ∙ q)

pub never_unread : NeverUnread
unfolding session_text report_text
never_unread s e = go (nat_lt 65536 (length s)) (ap first e)
  where
    go : (b : Bool) → first (cond b (ascii "long\n") (report_text Mainnet 64 s)) ≢ 117
    go true q = absurd (omega arith)
    go false q = reading-first (length s) (session_reading Mainnet 64 s).items (session_reading Mainnet 64 s).ending q
