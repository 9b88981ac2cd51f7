-- The lines that the program `session` prints (document 01, "At the edges"), as bytes in ASCII.
use Rattle.std.specs.Prelude.{ℕ, List, ◌++◌}
use Rattle.wire_text_write.specs.Text.{ascii, decimal}

-- a text and a number
unfoldable pub labelled_number : List ℕ → ℕ → List ℕ
labelled_number text n = text ++ decimal n

abbrev pub line_end : List ℕ
line_end = ascii "\n"

-- a text, the start and the end of an item
unfoldable pub span : List ℕ → ℕ → ℕ → List ℕ
span text start end = labelled_number text start ++ labelled_number (ascii " ") end

-- " version 6.0.1"
unfoldable pub version_text : ℕ → ℕ → ℕ → List ℕ
version_text major minor patch =
    labelled_number (ascii " version ") major ++ (labelled_number (ascii ".") minor ++ labelled_number (ascii ".") patch)

-- "handshake 0 11 version 6.0.1 verdict 0"
unfoldable pub handshake_line : ℕ → ℕ → ℕ → ℕ → ℕ → ℕ → List ℕ
handshake_line start end major minor patch verdict =
    span (ascii "handshake ") start end
    ++ (version_text major minor patch
    ++ (labelled_number (ascii " verdict ") verdict
    ++ line_end))

-- "message 11 20 code 1"
unfoldable pub message_text : ℕ → ℕ → ℕ → List ℕ
message_text start end code =
    span (ascii "message ") start end ++ labelled_number (ascii " code ") code

unfoldable pub message_line : ℕ → ℕ → ℕ → List ℕ
message_line start end code = message_text start end code ++ line_end

-- "message 11 20 code 2 entries 3 bogus 1"
unfoldable pub peers_line : ℕ → ℕ → ℕ → ℕ → ℕ → List ℕ
peers_line start end code entries bogus =
    message_text start end code
    ++ (labelled_number (ascii " entries ") entries
    ++ (labelled_number (ascii " bogus ") bogus
    ++ line_end))

-- what stands before a stop's number, by its layer
abbrev pub stop_handshake : List ℕ
stop_handshake = ascii "stop handshake "

abbrev pub stop_frame : List ℕ
stop_frame = ascii "stop frame "

abbrev pub stop_body : List ℕ
stop_body = ascii "stop body "

-- "stop frame 5 11": the layer, the number, the start
unfoldable pub stop_line : List ℕ → ℕ → ℕ → List ℕ
stop_line text number start = span text number start ++ line_end

-- "end 20"
unfoldable pub end_line : ℕ → List ℕ
end_line length = labelled_number (ascii "end ") length ++ line_end
