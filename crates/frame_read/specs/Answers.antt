-- What the code gives of a frame: its code, and where its body stands in the stream.
use Rattle.std.specs.Prelude.{ℕ, List, length, take, drop}
use Rattle.wire.specs.Reader.{Segment}
use Rattle.frame.specs.Frame.{BodyFrame}
use Rattle.frame_read.specs.declared.StreamPart.{StreamPart}
use Rattle.frame_read.specs.declared.Frame.{Frame}

abbrev pub stream_part_of : Segment → StreamPart
stream_part_of g = record { start = record { 0 = g.start }; len = length g.bytes }

abbrev pub frame_of : BodyFrame → Frame
frame_of f = record { code = f.code; body = stream_part_of f.body }

-- the bytes that a part of the stream s names
abbrev pub part_in : List ℕ → StreamPart → List ℕ
part_in s p = take p.len (drop p.start.0 s)
