-- What the code gives of a reading: places, lengths and counts; and what an answer that ends at no place means.
use Rattle.std.specs.Prelude.{ℕ, ◌+◌, List, length, Result, Ok, Err}
use Rattle.wire.specs.Reader.{Answer, got, refused, Segment}
use Rattle.wire.specs.Refusals.{number}
use Rattle.wire.specs.declared.Refusal.{Refusal}
use Rattle.types.specs.declared.BodyPlace.{BodyPlace}
use Rattle.messages.specs.Message.{InventoryHeader}
use Rattle.messages_inventory_read.specs.Parts.{Items, items_start}
use Rattle.messages_inventory_read.specs.declared.Inventory.{Inventory}

-- ---- what is given of a reading of the body s

abbrev pub inventory_of : {A : Type 0} → List ℕ → ℕ → List A → Inventory
inventory_of s type l = record { modifier_type = type; count = length l; start = record { 0 = items_start s } }

abbrev pub inventory_in : {A : Type 0} → List ℕ → Items A → Inventory
inventory_in s i = inventory_of s i.type i.list

-- of an id, its place
abbrev pub id_of : Segment → ℕ
id_of g = g.start

-- ---- what an answer means

-- an id ends 32 bytes after its place
abbrev pub id_answer : Result BodyPlace Refusal → Answer ℕ
id_answer (Ok p) = got p.0 (p.0 + 32)
id_answer (Err m) = refused (number m)

-- a header ends at the place of the first item
abbrev pub header_answer : Result Inventory Refusal → Answer InventoryHeader
header_answer (Ok i) = got (record { type = i.modifier_type; count = i.count }) i.start.0
header_answer (Err m) = refused (number m)
