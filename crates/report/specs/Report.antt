-- The report of a session (document 01, "At the edges"): the line of each item of its reading, then the line of how it ends; and what the program
-- `session` prints. Then what `put_lines` gives of it.
use Rattle.std.specs.Prelude.{ℕ, ◌-◌, cond, List, [], ◌∷◌, ◌++◌, length, take, nat_le, nat_lt, Result, Ok, Err}
use Rattle.std.specs.declared.ops.ControlFlow.{ControlFlow}
use Rattle.std.specs.declared.ops.ControlFlow.TheVariants.{Continue, Break}
use mathlib.Core.List.{flat_map}
use Rattle.types.specs.declared.Network.{Network}
use Rattle.types.specs.declared.Network.TheVariants.{Mainnet}
use Rattle.types.specs.declared.StreamPlace.{StreamPlace}
use Rattle.walk.specs.Walk.{Item, Ending, clean, stopped, unended, Reading, walk}
use Rattle.walk.specs.Session.{Fields, handshake_fields, message_fields, Verdict, peer_verdict, peers_verdict, no_verdict, Content, handshake_at, message_at, session_reading}
use Rattle.walk_read.specs.Steps.{stream_place, layer_of, peer_number}
use Rattle.wire_text_write.specs.Text.{ascii}
use Rattle.report_text.specs.Lines.{handshake_line, message_line, peers_line, stop_line, end_line}
use Rattle.report_lines.specs.StepLines.{stop_text}
use Rattle.report_lines.specs.declared.Next.{Next}

-- ---- the report

-- start, end, then version and verdict, or code (Peers adds entries and bogus)
unfoldable pub content_line : ℕ → ℕ → Fields → Verdict → List ℕ
content_line start end (handshake_fields h) v =
    handshake_line start end h.entry.version.major h.entry.version.minor h.entry.version.patch (peer_number v)
content_line start end (message_fields code from m) (peers_verdict entries bogus) = peers_line start end code entries bogus
content_line start end (message_fields code from m) (peer_verdict v) = message_line start end code
content_line start end (message_fields code from m) no_verdict = message_line start end code

abbrev pub item_line : Item Content → List ℕ
item_line i = content_line i.start i.end i.holds.fields i.holds.verdict

-- after `end` the length n; after `stop` layer, number, start
unfoldable pub ending_line : ℕ → Ending → List ℕ
ending_line n clean = end_line n
ending_line n (stopped layer m start) = stop_line (stop_text (layer_of layer)) m start
ending_line n unended = []

abbrev pub reading_text : ℕ → Reading Content → List ℕ
reading_text n r = flat_map item_line r.items ++ ending_line n r.ending

unfoldable pub report_text : Network → ℕ → List ℕ → List ℕ
report_text network cap s = reading_text (length s) (session_reading network cap s)

-- what the program `session` prints of the input s: it reads mainnet with the cap 64; above 65,536 bytes it prints only `long`
unfoldable pub session_text : List ℕ → List ℕ
session_text s = cond (nat_lt 65536 (length s)) (ascii "long\n") (report_text Mainnet 64 s)

-- what it prints where its input could not be read
abbrev pub unread : List ℕ
unread = ascii "unread\n"

-- what it prints where so many bytes were read into a buffer, or a read failed
unfoldable pub input_text : {E : Type 0} → Result ℕ E → List ℕ → List ℕ
input_text (Ok n) buf = session_text (take n buf)
input_text (Err e) buf = unread

-- ---- lines of it in an output

-- the bytes of lines, and the place of the next step, or of the last one where none follows
pub record Block : Type 0 where
  pub text : List ℕ
  pub at : ControlFlow StreamPlace StreamPlace

abbrev pub line_then : List ℕ → Block → Block
line_then line b = record { text = line ++ b.text; at = b.at }

-- lines of the items and the ending of a session of n bytes, from the place at on: each where room for a longest one, 192 bytes, is left
unfoldable pub block_of : ℕ → ℕ → ℕ → List (Item Content) → Ending → Block
block_of n room at [] e =
    cond (nat_le 192 room) (record { text = ending_line n e; at = Break (stream_place at) }) (record { text = []; at = Continue (stream_place at) })
block_of n room at (i ∷ is) e =
    cond (nat_le 192 room) (line_then (item_line i) (block_of n (room - length (item_line i)) i.end is e)) (record { text = []; at = Continue (stream_place at) })

module _ (network : Network) (cap : ℕ) (s : List ℕ) where
  -- the reading from a place on
  abbrev pub reading_from : ℕ → Reading Content
  reading_from at = walk Content (handshake_at network) (message_at network cap) s at

  unfoldable pub block_at : ℕ → ℕ → Block
  block_at room at = block_of (length s) room at (reading_from at).items (reading_from at).ending

-- what `put_lines` gives of it
abbrev pub block_next : Block → Next
block_next b = record { len = length b.text; at = b.at }
