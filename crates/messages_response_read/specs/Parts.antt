-- A payload by index, once the body has been read without refusal.
use Rattle.std.specs.Prelude.{ℕ, List, length}
use Rattle.wire.specs.Reader.{Answer}
use Rattle.messages.specs.Message.{Payload, payload}
use Rattle.messages_inventory_read.specs.Parts.{item_at}

unfoldable pub payload_at : ℕ → List ℕ → Answer Payload
payload_at index s = item_at index (payload (length s)) s
