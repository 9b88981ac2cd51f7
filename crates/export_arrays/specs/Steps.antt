-- What is given of a step: its numbers, in a row, or 12 for a place past the length.
use Rattle.std.specs.Prelude.{ℕ, List, [], ◌∷◌, ◌≡◌}
use Rattle.messages_read.specs.declared.Message.{Message}
use Rattle.messages_read.specs.declared.Message.TheVariants as Messages
use Rattle.walk_read.specs.declared.MessageItem.{MessageItem}
use Rattle.walk_read.specs.declared.Layer.{Layer}
use Rattle.walk_read.specs.declared.Layer.TheVariants as Layers
use Rattle.walk_read.specs.declared.StepRead.{StepRead}
use Rattle.walk_read.specs.declared.StepRead.TheVariants as StepReads

abbrev pub step_array : ℕ → ℕ → ℕ → ℕ → List ℕ
step_array kind a b c = kind ∷ a ∷ b ∷ c ∷ 0 ∷ 0 ∷ 0 ∷ 0 ∷ 0 ∷ 0 ∷ 0 ∷ []

-- start, end, code, the body's place and length, type byte, count, bogus count, the first one's place
abbrev pub message_array : MessageItem → ℕ → ℕ → ℕ → ℕ → List ℕ
message_array i modifierType count bogus first =
    2 ∷ i.start.0 ∷ i.end.0 ∷ i.code ∷ i.body.start.0 ∷ i.body.len ∷ modifierType ∷ count ∷ bogus ∷ first ∷ 0 ∷ []

unfoldable pub with_message : MessageItem → Message → List ℕ
with_message i Messages.GetPeers = message_array i 0 0 0 0
with_message i (Messages.Peers p) = message_array i 0 p.count p.bogus p.start.0
with_message i (Messages.ModifierRequest l) = message_array i l.modifier_type l.count 0 l.start.0
with_message i (Messages.ModifierResponse l) = message_array i l.modifier_type l.count 0 l.start.0
with_message i (Messages.Inv l) = message_array i l.modifier_type l.count 0 l.start.0
with_message i Messages.SyncInfo = message_array i 0 0 0 0
with_message i Messages.Unknown = message_array i 0 0 0 0

abbrev pub message_step : MessageItem → List ℕ
message_step i = with_message i i.message

unfoldable pub layer_number : Layer → ℕ
layer_number Layers.Handshake = 1
layer_number Layers.Frame = 2
layer_number Layers.Body = 3

unfoldable pub step_number : StepRead → ℕ
step_number (StepReads.Handshake i) = 0
step_number (StepReads.Message i) = 0
step_number StepReads.End = 0
step_number (StepReads.Stop t) = 0
step_number StepReads.Outside = 12

unfoldable pub step_after : StepRead → List ℕ → List ℕ
step_after (StepReads.Handshake i) array = step_array 1 i.start.0 i.end.0 i.verdict
step_after (StepReads.Message i) array = message_step i
step_after StepReads.End array = step_array 0 0 0 0
step_after (StepReads.Stop t) array = step_array 3 t.start.0 (layer_number t.layer) t.number
step_after StepReads.Outside array = array

-- of a step n was returned, with the array `before` left as `after`
pub record StepLeaves (step : StepRead) (n : ℕ) (before after : List ℕ) : Type 0 where
  pub number : n ≡ step_number step
  pub array : after ≡ step_after step before
