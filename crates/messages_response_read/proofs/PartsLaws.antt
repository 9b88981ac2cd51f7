-- The body of 33 is a header and payloads.
use Rattle.std.specs.Prelude.{ℕ, List, ◌≡◌}
use Rattle.wire.specs.Reader.{map_answer}
use Rattle.messages.specs.Message.{modifier_response, payload, payloads}
use Rattle.messages_inventory_read.specs.Parts.{items}
use Rattle.messages_inventory_read.proofs.PartsLaws.{items-made}

pub payloads-items : (size : ℕ) (s : List ℕ) (at : ℕ)
    → payloads size s at ≡ map_answer (λ i. modifier_response i.type i.list) (items (payload size) s at)
unfolding payloads
payloads-items size s at = items-made (payload size) modifier_response s at
