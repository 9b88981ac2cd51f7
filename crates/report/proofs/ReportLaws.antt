-- One step of the walk is one line: of the text, of a block, and of the lines to come.
use Rattle.std.specs.Prelude.{◌≡◌, ℕ, zero, suc, ◌+◌, ◌-◌, ◌<◌, ◌≤◌, Bool, true, false, cond, List, [], ◌∷◌, ◌++◌, length, ◌==◌, nat_le}
use Rattle.std.specs.declared.ops.ControlFlow.{ControlFlow}
use Rattle.std.specs.declared.ops.ControlFlow.TheVariants.{Continue, Break}
use Rattle.std.proofs.Common.{arith, sym, subst, ◌∙◌}
use mathlib.Core.List.{flat_map, append_assoc, append-nil}
use Rattle.std.proofs.Math.Logic.{⊎_elim}
use Rattle.std.proofs.Math.Path.{refl, ap}
use borrow.Author.Tests.{le-leb, lt-leb}
use Rattle.wire.specs.Numbers.{lt-or_ge}
use Rattle.wire.specs.Reader.{Answer, got, refused}
use Rattle.types.specs.declared.Network.{Network}
use Rattle.types.specs.declared.StreamPlace.{StreamPlace}
use Rattle.handshake.specs.Entry.{EntryHandshake, handshake}
use Rattle.frame.specs.Frame.{BodyFrame, frame}
use Rattle.messages.specs.Message as Bodies
use Rattle.messages.specs.Message.{Message, message}
use Rattle.walk.specs.Walk as Walk
use Rattle.walk.specs.Walk.{Opened, opened, refused_in, Item, item, clean_end, stop, outside, Ending, clean, stopped, unended, Reading, step_to, onward, step, walk_in, walk, reading}
use Rattle.walk.proofs.WalkLaws.{step-outside, walk_step}
use Rattle.walk.specs.Session.{Fields, handshake_fields, message_fields, Verdict, Content, message_verdict, handshake_item, message_item, frame_item, handshake_at, message_at, session_step, session_reading}
use Rattle.walk.proofs.SessionLaws.{session_readers}
use Rattle.walk_read.specs.Steps.{stream_place, step_of, item_of}
use Rattle.walk_read.specs.declared.StepRead.{StepRead}
use Rattle.report_lines.specs.StepLines.{line_of, handshake_item_line, message_of_line}
use Rattle.report_lines.specs.NextLines.{step_next}
use Rattle.report.specs.Report.{content_line, item_line, ending_line, reading_text, report_text, Block, line_then, block_of, reading_from, block_at}

-- ---- the verdict of an item is that on its fields

module _ (network : Network) where
  abbrev Judged : Fields → Verdict → Type 0
  Judged (handshake_fields h) v = Unit {0}
  Judged (message_fields code from m) v = v ≡ message_verdict network m

  abbrev OpenJudged : Opened Content → Type 0
  OpenJudged (opened c end) = Judged c.fields c.verdict
  OpenJudged (refused_in layer n) = Unit {0}

  abbrev StepJudged : Walk.Step Content → Type 0
  StepJudged (item i) = Judged i.holds.fields i.holds.verdict
  StepJudged clean_end = Unit {0}
  StepJudged (stop layer n at) = Unit {0}
  StepJudged outside = Unit {0}

  handshake-judged : (r : Answer EntryHandshake) → OpenJudged (handshake_item network r)
  unfolding handshake_item
  handshake-judged (got h end) = tt
  handshake-judged (refused n) = tt

  message-judged : (f : BodyFrame) (end : ℕ) (r : Answer Message) → OpenJudged (message_item network f end r)
  unfolding message_item
  message-judged f end (got m next) = refl
  message-judged f end (refused n) = tt

  frame-judged : (cap : ℕ) (r : Answer BodyFrame) → OpenJudged (frame_item network cap r)
  unfolding frame_item
  frame-judged cap (got f end) = message-judged f end (message cap f.code f.body.bytes 0)
  frame-judged cap (refused n) = tt

  to-judged : (at : ℕ) (o : Opened Content) → OpenJudged o → StepJudged (step_to at o)
  unfolding step_to
  to-judged at (opened c end) h = h
  to-judged at (refused_in layer n) h = tt

  cond-judged : (b : Bool) (x y : Walk.Step Content) → StepJudged x → StepJudged y → StepJudged (cond b x y)
  cond-judged true x y h g = h
  cond-judged false x y h g = g

  step-judged : (cap : ℕ) (s : List ℕ) (at : ℕ) → StepJudged (session_step network cap s at)
  unfolding session_step step handshake_at message_at
  step-judged cap s zero = to-judged 0 (handshake_item network (handshake s 0)) (handshake-judged (handshake s 0))
  step-judged cap s (suc at) =
      cond-judged (suc at == length s) _ _ tt
      (cond-judged (nat_le (suc at) (length s)) _ _ (to-judged (suc at) (frame_item network cap (frame network s (suc at))) (frame-judged cap (frame network s (suc at)))) tt)

  -- so the line of an item as the code gives it is the report's
  content_line_lem : (s : List ℕ) (start end : ℕ) (f : Fields) (v : Verdict) (n : ℕ) → Judged f v
      → line_of (item_of network s start end f v) n ≡ content_line start end f v
  unfolding item_of line_of content_line handshake_item_line message_of_line message_verdict
  content_line_lem s start end (handshake_fields h) v n j = refl
  content_line_lem s start end (message_fields code from Bodies.get_peers) v n j = rw j
  content_line_lem s start end (message_fields code from (Bodies.peers es)) v n j = rw j
  content_line_lem s start end (message_fields code from (Bodies.modifier_request type ids)) v n j = rw j
  content_line_lem s start end (message_fields code from (Bodies.modifier_response type ps)) v n j = rw j
  content_line_lem s start end (message_fields code from (Bodies.inv type ids)) v n j = rw j
  content_line_lem s start end (message_fields code from (Bodies.sync_info body)) v n j = rw j
  content_line_lem s start end (message_fields code from (Bodies.unknown body)) v n j = rw j

  item-next : (s : List ℕ) (start end : ℕ) (f : Fields) (v : Verdict) (at : StreamPlace)
      → step_next (item_of network s start end f v) at ≡ Continue (stream_place end)
  unfolding item_of
  item-next s start end (handshake_fields h) v at = refl
  item-next s start end (message_fields code from m) v at = refl

-- ---- one step, one line

module _ (network : Network) (cap : ℕ) (s : List ℕ) where
  abbrev From : ℕ → Reading Content
  From at = reading_from network cap s at

  -- the lines to come, their text, and what is laid of them in a room, where a step follows at a place
  abbrev pub lines_from : ControlFlow StreamPlace StreamPlace → ℕ
  lines_from (Continue at) = length (From at.0).items + 1
  lines_from (Break at) = 0

  abbrev pub text_from : ControlFlow StreamPlace StreamPlace → List ℕ
  text_from (Continue at) = reading_text (length s) (From at.0)
  text_from (Break at) = []

  abbrev pub block_from : ℕ → ControlFlow StreamPlace StreamPlace → Block
  block_from room (Continue at) = block_at network cap s room at.0
  block_from room (Break at) = record { text = []; at = Break at }

  abbrev pub here : ℕ → ControlFlow StreamPlace StreamPlace
  here at = Continue (stream_place at)

  -- a step has one line: of the lines to come, of their text, and of a block with room for it
  pub record OneLine (at : ℕ) (line : List ℕ) (next : ControlFlow StreamPlace StreamPlace) : Type 0 where
    pub counted : lines_from (here at) ≡ suc (lines_from next)
    pub told : text_from (here at) ≡ line ++ text_from next
    pub laid : (room : ℕ) → 192 ≤ room → block_at network cap s room at ≡ line_then line (block_from (room - length line) next)

  -- the reading from any place on is the step's answer there and, after an item, the reading from its end
  from_past : (at : ℕ) → length s < at → From at ≡ onward (session_step network cap s at) From
  unfolding session_step walk walk_in onward
  from_past at h = rw (step-outside Content (handshake_at network) (message_at network cap) s at h)

  from_step : (at : ℕ) → From at ≡ onward (session_step network cap s at) From
  unfolding session_step
  from_step at = ⊎_elim (from_past at) (λ (h : at ≤ length s). walk_step (session_readers network cap) s at h) (lt-or_ge (length s) at)

  item-one : (at : ℕ) (i : Item Content) → From at ≡ onward (item i) From
      → OneLine at (item_line i) (here i.end)
  unfolding onward block_at block_of flat_map
  item-one at i q =
      record {
        counted = rw q (omega arith);
        told = rw q (append_assoc (item_line i) (flat_map item_line (From i.end).items) (ending_line (length s) (From i.end).ending));
        laid = λ room h. rw (q, le-leb 192 room h);
      }

  last_one : (at : ℕ) (e : Ending) → From at ≡ record { items = []; ending = e }
      → OneLine at (ending_line (length s) e) (Break (stream_place at))
  unfolding block_at block_of flat_map
  last_one at e q =
      record {
        counted = rw q;
        told = rw q (sym (append-nil (ending_line (length s) e)));
        laid = λ room h. rw (q, le-leb 192 room h, append-nil);
      }

  -- what the code gives of a step
  abbrev Told : ℕ → StepRead → Type 0
  Told at r = OneLine at (line_of r (length s)) (step_next r (stream_place at))

  pub one_line : (at : ℕ) → Told at (step_of network s (session_step network cap s at))
  unfolding step_of line_of ending_line onward session_step
  one_line at = go (session_step network cap s at) refl
    where
      whole : {x : Walk.Step Content} → session_step network cap s at ≡ x → From at ≡ onward x From
      whole q = from_step at ∙ ap (λ (x : Walk.Step Content). onward x From) q

      an_item : (i : Item Content) → session_step network cap s at ≡ item i
          → Told at (item_of network s i.start i.end i.holds.fields i.holds.verdict)
      an_item i q =
          let j = subst (λ (x : Walk.Step Content). StepJudged network x) q (step-judged network cap s at) in
          let e = content_line_lem network s i.start i.end i.holds.fields i.holds.verdict (length s) j in
          rw (item-next network s i.start i.end i.holds.fields i.holds.verdict (stream_place at), e)
          (item-one at i (whole q))

      go : (x : Walk.Step Content) → session_step network cap s at ≡ x → Told at (step_of network s x)
      go (item i) q = an_item i q
      go clean_end q = last_one at clean (whole q)
      go (stop layer n k) q = last_one at (stopped layer n k) (whole q)
      go outside q = last_one at unended (whole q)

  -- ---- from place 0 on

  pub text-all : text_from (here 0) ≡ report_text network cap s
  unfolding report_text session_reading reading
  text-all = refl

  -- ---- a block

  -- what a block has, and what is to come after it, was to come
  pub record Laid (at : ℕ) (b : Block) : Type 0 where
    pub fewer : lines_from b.at ≤ lines_from (here at)
    pub told : text_from (here at) ≡ b.text ++ text_from b.at

  line-laid : {at : ℕ} {line : List ℕ} (next : ControlFlow StreamPlace StreamPlace) → OneLine at line next → (room : ℕ)
      → ((end : StreamPlace) → next ≡ Continue end → Laid end.0 (block_at network cap s room end.0)) → Laid at (line_then line (block_from room next))
  line-laid {at} {line} (Continue end) o room rest =
      let l = rest end refl in
      record {
        fewer = omega (arith, l.fewer, o.counted);
        told = o.told ∙ ap (λ (t : List ℕ). line ++ t) l.told ∙ sym (append_assoc line _ _);
      }
  line-laid {at} {line} (Break end) o room rest =
      record { fewer = omega arith; told = o.told ∙ sym (append-nil (line ++ [])) }

  full : (n room at : ℕ) (is : List (Item Content)) (e : Ending) → room < 192
      → block_of n room at is e ≡ record { text = []; at = here at }
  unfolding block_of
  full n room at [] e h = rw (lt-leb 192 room h)
  full n room at (i ∷ is) e h = rw (lt-leb 192 room h)

  -- without room for a longest line there is none
  pub block-full : (room at : ℕ) → room < 192 → block_at network cap s room at ≡ record { text = []; at = here at }
  unfolding block_at
  block-full room at h = full (length s) room at (From at).items (From at).ending h

  one_fewer : {at c : ℕ} {line : List ℕ} (next : ControlFlow StreamPlace StreamPlace) (end : StreamPlace) → OneLine at line next → next ≡ Continue end
      → lines_from (here at) ≤ suc c → lines_from (Continue end) ≤ c
  one_fewer next end o m h = let k = rw m at o.counted in omega (arith, k)

  lay_one : {at : ℕ} {line : List ℕ} {next : ControlFlow StreamPlace StreamPlace} (room : ℕ) → 192 ≤ room → OneLine at line next
      → ((end : StreamPlace) → next ≡ Continue end → Laid end.0 (block_at network cap s (room - length line) end.0)) → Laid at (block_at network cap s room at)
  lay_one {line = line} {next = next} room g o rest = rw (o.laid room g) (line-laid next o (room - length line) rest)

  lays_in : (c room at : ℕ) → lines_from (here at) ≤ c → Laid at (block_at network cap s room at)
  lays_in zero room at h = absurd (omega arith)
  lays_in (suc c) room at h =
      ⊎_elim
      (λ (l : room < 192). rw (block-full room at l) (record { fewer = omega arith; told = refl }))
      (λ (g : 192 ≤ room). let o = one_line at in lay_one room g o (λ end m. lays_in c _ _ (one_fewer _ end o m h)))
      (lt-or_ge room 192)

  pub lays : (room at : ℕ) → Laid at (block_at network cap s room at)
  lays room at = lays_in (lines_from (here at)) room at (omega arith)

  -- with room for a longest line there is one
  pub lays-some : (room at : ℕ) → 192 ≤ room → lines_from (block_at network cap s room at).at < lines_from (here at)
  lays-some room at g = some (one_line at)
    where
      rest : {line : List ℕ} (next : ControlFlow StreamPlace StreamPlace) → OneLine at line next → (r : ℕ) → lines_from (block_from r next).at < lines_from (here at)
      rest (Continue end) o r = omega (arith, (lays r end.0).fewer, o.counted)
      rest (Break end) o r = omega (arith, o.counted)

      some : {line : List ℕ} {next : ControlFlow StreamPlace StreamPlace} → OneLine at line next → lines_from (block_at network cap s room at).at < lines_from (here at)
      some {line = line} {next = next} o = rw (o.laid room g) (rest next o (room - length line))
