-- The value and the verdict of an item that a caller puts together from what the code gives alone: a handshake from the places in the stream s, a
-- message from the bytes that the item's body names.
use Rattle.std.specs.Prelude.{ℕ}
use mathlib.Core.List.{List, [], ◌∷◌, flat_map}
use Rattle.handshake_read.specs.Values.{handshake_given}
use Rattle.frame_read.specs.Answers.{part_in}
use Rattle.messages_read.specs.Values.{message_given}
use Rattle.messages_read.specs.declared.Message.{Message}
use Rattle.messages_read.specs.declared.Message.TheVariants as Messages
use Rattle.walk.specs.Session.{Verdict, peer_verdict, peers_verdict, no_verdict}
use Rattle.walk.specs.Walk.{Item}
use Rattle.walk.specs.WrittenSession.{Value, session_handshake, session_message}
use Rattle.walk_read.specs.declared.StepRead.{StepRead}
use Rattle.walk_read.specs.declared.StepRead.TheVariants as StepReads

-- an end or a stop has no value
unfoldable pub given_value : ℕ → List ℕ → StepRead → List Value
given_value cap s (StepReads.Handshake i) = session_handshake (handshake_given s i.handshake) ∷ []
given_value cap s (StepReads.Message i) =
    session_message (message_given cap i.code (part_in s i.body) i.message) ∷ []
given_value cap s StepReads.End = []
given_value cap s (StepReads.Stop t) = []
given_value cap s StepReads.Outside = []

-- of the items that are given of s, in order
unfoldable pub given_values : ℕ → List ℕ → List (Item StepRead) → List Value
given_values cap s is = flat_map (λ i. given_value cap s i.holds) is

-- the verdict on a message: of Peers the given counts; others have none
abbrev pub message_verdict_given : Message → Verdict
message_verdict_given (Messages.Peers p) = peers_verdict p.count p.bogus
message_verdict_given Messages.GetPeers = no_verdict
message_verdict_given (Messages.ModifierRequest i) = no_verdict
message_verdict_given (Messages.ModifierResponse i) = no_verdict
message_verdict_given (Messages.Inv i) = no_verdict
message_verdict_given Messages.SyncInfo = no_verdict
message_verdict_given Messages.Unknown = no_verdict

-- the verdict on an item; an end or a stop has none
unfoldable pub verdict_given : StepRead → Verdict
verdict_given (StepReads.Handshake i) = peer_verdict i.verdict
verdict_given (StepReads.Message i) = message_verdict_given i.message
verdict_given StepReads.End = no_verdict
verdict_given (StepReads.Stop t) = no_verdict
verdict_given StepReads.Outside = no_verdict
