-- Short strings (document 01, "VLQ, zigzag, short strings"): a length byte, then that many bytes of UTF-8. Laws stand in `ShortStringLaws`.
use Rattle.std.specs.Prelude.{ℕ, List, ◌∷◌, length}
use Rattle.wire.specs.Reader.{Reader, and_then, guard, byte, Segment, part}
use Rattle.vlq_utf8.specs.Utf8.{utf8}

-- n bytes of UTF-8
-- Are they all there? 1. Is the string UTF-8? 4
unfoldable pub string : ℕ → Reader Segment
string n = and_then (part n) (λ g. guard (utf8 g.bytes) 4 g)

unfoldable pub short_string : Reader Segment
short_string = and_then byte string

-- the most bytes of a short string, whose length is a byte
abbrev pub max_short_string : ℕ
max_short_string = 255

-- the bytes of a short string
abbrev pub short_string_bytes : List ℕ → List ℕ
short_string_bytes s = length s ∷ s
