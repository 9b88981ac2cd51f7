-- What the code gives of a reading: places, lengths and counts.
use Rattle.std.specs.Prelude.{ℕ, List}
use Rattle.types.specs.declared.Network.{Network}
use Rattle.messages.specs.Message as Bodies
use Rattle.messages_inventory_read.specs.Answers.{inventory_of}
use Rattle.messages_peers_read.specs.Answers.{peers_of}
use Rattle.messages_read.specs.declared.Message.{Message}
use Rattle.messages_read.specs.declared.Message.TheVariants as Messages

-- what is given of a reading of the body s
abbrev pub message_of : Network → List ℕ → Bodies.Message → Message
message_of network s Bodies.get_peers = Messages.GetPeers
message_of network s (Bodies.peers l) = Messages.Peers (peers_of network s l)
message_of network s (Bodies.modifier_request type l) = Messages.ModifierRequest (inventory_of s type l)
message_of network s (Bodies.modifier_response type l) = Messages.ModifierResponse (inventory_of s type l)
message_of network s (Bodies.inv type l) = Messages.Inv (inventory_of s type l)
message_of network s (Bodies.sync_info body) = Messages.SyncInfo
message_of network s (Bodies.unknown body) = Messages.Unknown
