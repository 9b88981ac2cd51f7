-- What the code gives of a step: of an item its places, its numbers and its verdict, and the layer of a stop.
use Rattle.std.specs.Prelude.{ℕ, ◌-◌, List, take, drop}
use Rattle.wire.specs.Reader.{Answer, got, refused}
use Rattle.types.specs.declared.Network.{Network}
use Rattle.types.specs.declared.StreamPlace.{StreamPlace}
use Rattle.frame_read.specs.declared.Frame.{Frame}
use Rattle.handshake_read.specs.Answers.{handshake_of}
use Rattle.messages.specs.Message.{Message}
use Rattle.messages_read.specs.Answers.{message_of}
use Rattle.walk.specs.Walk as Walk
use Rattle.walk.specs.Walk.{item, clean_end, stop, outside}
use Rattle.walk.specs.Session.{Fields, handshake_fields, message_fields, Verdict, peer_verdict, peers_verdict, no_verdict, Content}
use Rattle.walk_read.specs.declared.Layer.{Layer}
use Rattle.walk_read.specs.declared.Layer.TheVariants as Layers
use Rattle.walk_read.specs.declared.StepRead.{StepRead}
use Rattle.walk_read.specs.declared.StepRead.TheVariants as StepReads

abbrev pub stream_place : ℕ → StreamPlace
stream_place at = record { 0 = at }

abbrev pub layer_of : Walk.Layer → Layer
layer_of Walk.handshake = Layers.Handshake
layer_of Walk.frame = Layers.Frame
layer_of Walk.body = Layers.Body

-- the verdict on a handshake
abbrev pub peer_number : Verdict → ℕ
peer_number (peer_verdict v) = v
peer_number (peers_verdict n b) = 0
peer_number no_verdict = 0

-- the bytes of the body that starts at a place and ends at another
abbrev pub body_in : List ℕ → ℕ → ℕ → List ℕ
body_in s start end = take (end - start) (drop start s)

-- an item of the stream s from a place to another; the verdict on Peers is in what `message_of` gives
unfoldable pub item_of : Network → List ℕ → ℕ → ℕ → Fields → Verdict → StepRead
item_of network s start end (handshake_fields h) v =
    StepReads.Handshake (record { start = stream_place start; end = stream_place end; handshake = handshake_of h; verdict = peer_number v })
item_of network s start end (message_fields code from m) v =
    StepReads.Message (record {
      start = stream_place start;
      end = stream_place end;
      code = code;
      body = record { start = stream_place from; len = end - from };
      message = message_of network (body_in s from end) m;
    })

unfoldable pub step_of : Network → List ℕ → Walk.Step Content → StepRead
step_of network s (item i) = item_of network s i.start i.end i.holds.fields i.holds.verdict
step_of network s clean_end = StepReads.End
step_of network s (stop layer n at) = StepReads.Stop (record { layer = layer_of layer; number = n; start = stream_place at })
step_of network s outside = StepReads.Outside

-- ---- Only for laws, proofs and private functions: no public contract and no theorem cites what follows.

-- a frame from a place to another, with what its body was read as
unfoldable pub opened_step : Network → StreamPlace → StreamPlace → Frame → List ℕ → Answer Message → StepRead
opened_step network start end f body (got m next) =
    StepReads.Message (record { start = start; end = end; code = f.code; body = f.body; message = message_of network body m })
opened_step network start end f body (refused n) = StepReads.Stop (record { layer = Layers.Body; number = n; start = start })
