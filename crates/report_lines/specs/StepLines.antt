-- The line of each step of a session's walk.
use Rattle.std.specs.Prelude.{ℕ, List, []}
use Rattle.messages_read.specs.declared.Message.{Message}
use Rattle.messages_read.specs.declared.Message.TheVariants as Messages
use Rattle.walk_read.specs.declared.HandshakeItem.{HandshakeItem}
use Rattle.walk_read.specs.declared.MessageItem.{MessageItem}
use Rattle.walk_read.specs.declared.Layer.{Layer}
use Rattle.walk_read.specs.declared.Layer.TheVariants as Layers
use Rattle.walk_read.specs.declared.Stop.{Stop}
use Rattle.walk_read.specs.declared.StepRead.{StepRead}
use Rattle.walk_read.specs.declared.StepRead.TheVariants as StepReads
use Rattle.report_text.specs.Lines.{handshake_line, message_line, peers_line, stop_handshake, stop_frame, stop_body, stop_line, end_line}

unfoldable pub handshake_item_line : HandshakeItem → List ℕ
handshake_item_line i =
    handshake_line i.start.0 i.end.0 i.handshake.peer.version.major i.handshake.peer.version.minor i.handshake.peer.version.patch i.verdict

-- Peers adds entries and bogus
unfoldable pub message_of_line : ℕ → ℕ → ℕ → Message → List ℕ
message_of_line start end code (Messages.Peers p) = peers_line start end code p.count p.bogus
message_of_line start end code Messages.GetPeers = message_line start end code
message_of_line start end code (Messages.ModifierRequest i) = message_line start end code
message_of_line start end code (Messages.ModifierResponse i) = message_line start end code
message_of_line start end code (Messages.Inv i) = message_line start end code
message_of_line start end code Messages.SyncInfo = message_line start end code
message_of_line start end code Messages.Unknown = message_line start end code

abbrev pub message_item_line : MessageItem → List ℕ
message_item_line i = message_of_line i.start.0 i.end.0 i.code i.message

unfoldable pub stop_text : Layer → List ℕ
stop_text Layers.Handshake = stop_handshake
stop_text Layers.Frame = stop_frame
stop_text Layers.Body = stop_body

abbrev pub stop_item_line : Stop → List ℕ
stop_item_line t = stop_line (stop_text t.layer) t.number t.start.0

-- the line of a step of a session of n bytes; a place past the length has none
unfoldable pub line_of : StepRead → ℕ → List ℕ
line_of (StepReads.Handshake i) n = handshake_item_line i
line_of (StepReads.Message i) n = message_item_line i
line_of StepReads.End n = end_line n
line_of (StepReads.Stop t) n = stop_item_line t
line_of StepReads.Outside n = []
