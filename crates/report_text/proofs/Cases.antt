-- Document 01, "At the edges": a line of each kind.
use Rattle.std.specs.Prelude.{[], ◌∷◌, ◌≡◌, refl}
use Rattle.wire_text_write.specs.Text.{ascii, decimal_in, decimal}
use Rattle.report_text.specs.Lines.{labelled_number, span, version_text, handshake_line, message_text, message_line, peers_line, stop_handshake, stop_frame, stop_body, stop_line, end_line}

pub all_lines : handshake_line 0 11 6 0 1 0
    ∷ handshake_line 0 65536 255 99 100 2
    ∷ message_line 11 20 1
    ∷ peers_line 64691 65536 2 64 9
    ∷ stop_line stop_handshake 1 0
    ∷ stop_line stop_frame 5 11
    ∷ stop_line stop_body 10 9999
    ∷ end_line 20
    ∷ []
    ≡ ascii "handshake 0 11 version 6.0.1 verdict 0\n"
    ∷ ascii "handshake 0 65536 version 255.99.100 verdict 2\n"
    ∷ ascii "message 11 20 code 1\n"
    ∷ ascii "message 64691 65536 code 2 entries 64 bogus 9\n"
    ∷ ascii "stop handshake 1 0\n"
    ∷ ascii "stop frame 5 11\n"
    ∷ ascii "stop body 10 9999\n"
    ∷ ascii "end 20\n"
    ∷ []
unfolding decimal_in decimal labelled_number span version_text handshake_line message_text message_line peers_line stop_line end_line
all_lines = refl
