-- What `StepLeaves` says, each equation in full; and the numbers of a message of the session, which are those of the message itself.
use Rattle.std.specs.Prelude.{ℕ, List, ◌≡◌, slice_index, refl}
use Rattle.messages_read.specs.declared.Message.{Message}
use Rattle.messages_read.specs.declared.Message.TheVariants as Messages
use Rattle.walk_read.specs.declared.MessageItem.{MessageItem}
use Rattle.walk_read.specs.declared.StepRead.{StepRead}
use Rattle.export_arrays.specs.Steps.{message_array, with_message, step_number, step_after, StepLeaves}
use Rattle.export_arrays.specs.Messages.{message_numbers}

pub step-says : {step : StepRead} {n : ℕ} {before after : List ℕ} → StepLeaves step n before after
    → (n ≡ step_number step) × (after ≡ step_after step before)
step-says leaves = (leaves.number, leaves.array)

pub own-numbers : (i : MessageItem) (m : Message)
    → message_array i (slice_index (message_numbers m 0) 0) (slice_index (message_numbers m 0) 1) (slice_index (message_numbers m 0) 2) (slice_index (message_numbers m 0) 3)
    ≡ with_message i m
unfolding with_message message_numbers
own-numbers i Messages.GetPeers = refl
own-numbers i (Messages.Peers p) = refl
own-numbers i (Messages.ModifierRequest l) = refl
own-numbers i (Messages.ModifierResponse l) = refl
own-numbers i (Messages.Inv l) = refl
own-numbers i Messages.SyncInfo = refl
own-numbers i Messages.Unknown = refl
