-- What holds of every report. The statements alone; `TheoremsProved` proves them.
use Rattle.std.specs.Prelude.{◌≡◌, ℕ, ◌↔◌, List, ◌++◌, ◌≢◌}
use Rattle.std.specs.declared.ops.ControlFlow.TheVariants.{Continue, Break}
use Rattle.types.specs.declared.Network.{Network}
use Rattle.types.specs.declared.StreamPlace.{StreamPlace}
use Rattle.report_lines.specs.NextLines.{line_at, next_at}
use Rattle.report.specs.Report.{report_text, session_text, unread, block_at}

module _ (network : Network) (cap : ℕ) (s : List ℕ) where
  -- the lines of `next_line`, from a place on, each next at the place that it gives, joined
  pub data LinesFrom : ℕ → List ℕ → Type 0 where
    more : {at : ℕ} {text : List ℕ} (next : StreamPlace) → (next_at network cap s at).at ≡ Continue next → LinesFrom next.0 text → LinesFrom at (line_at network cap s at ++ text)
    last : {at : ℕ} (place : StreamPlace) → (next_at network cap s at).at ≡ Break place → LinesFrom at (line_at network cap s at)

  -- what `put_lines` stores into outputs of any lengths, from a place on, each next at the place that it gives, joined
  pub data BlocksFrom : ℕ → List ℕ → Type 0 where
    more :
        {at : ℕ} {text : List ℕ} (room : ℕ) (next : StreamPlace)
        → (block_at network cap s room at).at ≡ Continue next
        → BlocksFrom next.0 text
        → BlocksFrom at ((block_at network cap s room at).text ++ text)
    last : {at : ℕ} (room : ℕ) (place : StreamPlace) → (block_at network cap s room at).at ≡ Break place → BlocksFrom at (block_at network cap s room at).text

module _ (network : Network) (cap : ℕ) where
  abbrev pub LinesAreReport : Type 0
  LinesAreReport = (s text : List ℕ) → LinesFrom network cap s 0 text ↔ (text ≡ report_text network cap s)

  abbrev pub BlocksAreReport : Type 0
  BlocksAreReport = (s text : List ℕ) → BlocksFrom network cap s 0 text → text ≡ report_text network cap s

-- no input is reported on as one that could not be read
abbrev pub NeverUnread : Type 0
NeverUnread = (s : List ℕ) → session_text s ≢ unread
