-- The exported writers, each with what it is given beside the output and the place: what it says, and its bytes.
use Rattle.std.specs.Prelude.{ℕ, List, []}
use Rattle.wire.specs.Output.{written}
use Rattle.vlq.specs.Vlq.{vlq_bytes}
use Rattle.vlq.specs.ShortString.{short_string_bytes}
use Rattle.vlq_write.specs.Asked.{short_string_asked}
use Rattle.types.specs.declared.Network.{Network}
use Rattle.handshake.specs.Value.{entry_bytes, handshake_bytes}
use Rattle.handshake.specs.Tables.{Tables}
use Rattle.handshake.specs.Writes.{entry_at_row, entry_written, handshake_at_row, handshake_written, Config, built}
use Rattle.frame.specs.Frame.{frame_bytes}
use Rattle.frame.specs.Writes.{frame_written}
use Rattle.messages.specs.Writes.{MessageWrite, value_of, message_bytes, message_written}
use Rattle.haspeljo.specs.Results.{Writer}
use Rattle.haspeljo.specs.Configs.{built_from_written}

abbrev pub vlq_writer : ℕ → Writer
vlq_writer value = record { says = λ out at. written [] [] out at (vlq_bytes value); bytes = vlq_bytes value }

abbrev pub short_string_writer : List ℕ → Writer
short_string_writer s = record { says = λ out at. written [] (short_string_asked s) out at (short_string_bytes s); bytes = short_string_bytes s }

abbrev pub part_writer : List ℕ → Writer
part_writer s = record { says = λ out at. written [] [] out at s; bytes = s }

abbrev pub entry_writer : Tables → ℕ → Writer
entry_writer l index = record { says = entry_written l index; bytes = entry_bytes (entry_at_row l index) }

abbrev pub handshake_writer : ℕ → Tables → ℕ → Writer
handshake_writer timestamp l index =
    record { says = handshake_written timestamp l index; bytes = handshake_bytes (handshake_at_row timestamp l index) }

abbrev pub frame_writer : Network → ℕ → List ℕ → Writer
frame_writer network code body = record { says = frame_written network code body; bytes = frame_bytes network code body }

abbrev pub message_writer : Network → ℕ → MessageWrite → Writer
message_writer network cap w = record { says = message_written network cap w; bytes = message_bytes network (value_of w) }

-- kind, high and low half of the address as numbers
abbrev pub build_writer : ℕ → ℕ → ℕ → Config → Writer
build_writer kind high low c = record { says = built_from_written kind high low c; bytes = handshake_bytes (built c) }
