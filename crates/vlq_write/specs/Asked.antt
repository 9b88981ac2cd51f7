-- The questions of the writer of a short string (document 01, "Questions"), each with its number if "no".
use Rattle.std.specs.Prelude.{ℕ, List, [], ◌∷◌, leb, length}
use Rattle.wire.specs.Output.{Question, ask}
use Rattle.vlq_utf8.specs.Utf8.{utf8}
use Rattle.vlq.specs.ShortString.{max_short_string}

-- Has the string at most 255 bytes? 13. Is it UTF-8? 4
abbrev pub short_string_asked : List ℕ → List Question
short_string_asked s = ask 13 (leb (length s) max_short_string) ∷ (ask 4 (utf8 s) ∷ [])
