-- Document 01, "At the edges": the report of the session of 20 bytes and of its cuts, and the longest input that is reported on.
use Rattle.std.specs.Prelude.{◌≡◌, ℕ, List, [], ◌∷◌, map, length, take, replicate, Ok, Err, refl}
use mathlib.Core.List.{flat_map}
use Rattle.wire.specs.Bytes.{big_endian, big_endian_from, same_bytes}
use Rattle.wire.specs.Reader.{fold, list_of}
use Rattle.vlq_utf8.specs.Utf8.{lead_rows, lead_in, lead_of, utf8_from, utf8}
use Rattle.vlq.specs.Vlq.{groups, vlq}
use Rattle.vlq.specs.ShortString.{string, short_string}
use Rattle.types.specs.Order.{then_by, below}
use Rattle.types.specs.declared.Network.TheVariants.{Mainnet}
use Rattle.handshake.specs.Entry.{version, address_if, entry, handshake}
use Rattle.handshake.specs.Verdict.{first_feature, other_magic, validate_peer}
use Rattle.frame.specs.Frame.{header, body, frame}
use Rattle.messages.specs.Message.{peers, unknown, message}
use Rattle.walk.specs.Walk as Walk
use Rattle.walk.specs.Walk.{clean, stopped, step_to, onward, step, walk_in, walk, reading}
use Rattle.walk.specs.Session.{message_fields, peers_verdict, no_verdict, message_verdict, handshake_item, message_item, frame_item, handshake_at, message_at, session_reading}
use Rattle.wire_text_write.specs.Text.{ascii, decimal_in, decimal}
use Rattle.report_text.specs.Lines.{labelled_number, span, version_text, handshake_line, message_text, message_line, peers_line, stop_line, end_line}
use Rattle.report_lines.specs.StepLines.{stop_text}
use Rattle.report.specs.Report.{content_line, ending_line, report_text, session_text, input_text}

abbrev session : List ℕ
session =
    0xac ∷ 0x02 ∷ 0x02 ∷ 0x61 ∷ 0x62 ∷ 0x06 ∷ 0x00 ∷ 0x01 ∷ 0x00 ∷ 0x00 ∷ 0x00
    ∷ 0x01 ∷ 0x00 ∷ 0x02 ∷ 0x04 ∷ 0x01 ∷ 0x00 ∷ 0x00 ∷ 0x00 ∷ 0x00 ∷ []

pub all-cases : map session_text (session ∷ take 10 session ∷ take 11 session ∷ take 12 session ∷ [] ∷ [])
    ≡ ascii "handshake 0 11 version 6.0.1 verdict 0\nmessage 11 20 code 1\nend 20\n"
    ∷ ascii "stop handshake 1 0\n"
    ∷ ascii "handshake 0 11 version 6.0.1 verdict 0\nend 11\n"
    ∷ ascii "handshake 0 11 version 6.0.1 verdict 0\nstop frame 5 11\n"
    ∷ ascii "stop handshake 1 0\n"
    ∷ []
unfolding session_text report_text content_line ending_line stop_text decimal_in decimal labelled_number span version_text handshake_line message_text message_line stop_line end_line flat_map session_reading reading walk walk_in onward step step_to handshake_at message_at handshake_item frame_item message_item message_verdict validate_peer first_feature other_magic below then_by handshake entry version address_if short_string string utf8 utf8_from lead_of lead_in lead_rows vlq groups list_of fold frame header body big_endian big_endian_from same_bytes message
all-cases = refl

-- Peers adds entries and bogus; a stop has its layer
pub all_lines : content_line 11 65 (message_fields 2 24 (peers [])) (peers_verdict 3 1)
    ∷ content_line 11 20 (message_fields 255 20 (unknown [])) no_verdict
    ∷ map (ending_line 65) (clean ∷ stopped Walk.handshake 1 0 ∷ stopped Walk.frame 9 11 ∷ stopped Walk.body 11 20 ∷ [])
    ≡ ascii "message 11 65 code 2 entries 3 bogus 1\n"
    ∷ ascii "message 11 20 code 255\n"
    ∷ ascii "end 65\n"
    ∷ ascii "stop handshake 1 0\n"
    ∷ ascii "stop frame 9 11\n"
    ∷ ascii "stop body 11 20\n"
    ∷ []
unfolding content_line ending_line stop_text decimal_in decimal labelled_number span message_text message_line peers_line stop_line end_line
all_lines = refl

-- 65,536 bytes are reported on, 65,537 are not
pub longest : (s : List ℕ) → length s ≡ 65536 → session_text s ≡ report_text Mainnet 64 s
unfolding session_text
longest s e = rw e

pub too_long : session_text (replicate 65537 0) ≡ ascii "long\n"
unfolding session_text
too_long = refl

-- the word, letter by letter, whatever stands in the buffer
pub not-read : {E : Type 0} (e : E) (buf : List ℕ) → input_text (Err e) buf ≡ 117 ∷ 110 ∷ 114 ∷ 101 ∷ 97 ∷ 100 ∷ 10 ∷ []
unfolding input_text
not-read e buf = refl

-- of the buffer the bytes that were read
pub ten_of_twenty : (E : Type 0) → input_text {E = E} (Ok 10) session ≡ session_text (take 10 session)
unfolding input_text
ten_of_twenty E = refl
