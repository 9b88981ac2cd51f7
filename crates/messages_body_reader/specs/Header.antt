-- What the code's header of a body means, and the header of messages from the two answers that it is read by.
use Rattle.std.specs.Prelude.{ℕ, cond, leb, Result, Ok, Err}
use Rattle.wire.specs.Reader.{Answer, got, refused, bind}
use Rattle.wire.specs.Refusals.{number}
use Rattle.wire.specs.declared.Refusal.{Refusal}
use Rattle.types.specs.declared.BodyPlace.{BodyPlace}
use Rattle.messages.specs.Message.{max_inv_objects, InventoryHeader}
use Rattle.messages_body_reader.specs.declared.InventoryHeader as Given

-- what the code's answer means
abbrev pub inventory_header_answer : Result (Given.InventoryHeader × BodyPlace) Refusal → Answer InventoryHeader
inventory_header_answer (Ok (h, p)) = got (record { type = h.modifier_type; count = h.count }) p.0
inventory_header_answer (Err m) = refused (number m)

-- ---- Only for laws, proofs and private functions: no public contract and no theorem cites what follows.

-- `header` from the answers of the byte and of the VLQ after it
abbrev pub header_of : Answer ℕ → Answer ℕ → Answer InventoryHeader
header_of modifierType count =
    bind modifierType (λ type _. bind count (λ n next. cond (leb n max_inv_objects) (got (record { type = type; count = n }) next) (refused 10)))
