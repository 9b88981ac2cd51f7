-- Document 01, "Questions", Caller: an id by index, inside and outside, and only once the body has been read.
use Rattle.std.specs.Prelude.{ℕ, List, [], ◌∷◌, ◌++◌, map, ◌≡◌, refl, replicate, Ok, Err}
use Rattle.wire.specs.Reader.{Answer, got, refused, Segment, fold, list_of}
use Rattle.wire.specs.declared.Refusal.TheVariants.{LengthTooLarge, InvalidUtf8, FrameTooShort, BadMagic}
use Rattle.types.specs.Answers.{body_answer}
use Rattle.vlq.specs.Answers.{read_answer}
use Rattle.vlq.specs.Vlq.{groups, vlq, vlq_length}
use Rattle.messages.specs.Message.{count, inventory_header}
use Rattle.messages_inventory_read.specs.Answers.{inventory_of, id_answer, header_answer}
use Rattle.messages_inventory_read.specs.declared.Inventory.{Inventory}
use Rattle.messages_inventory_read.specs.Parts.{items, items_start, item_by_index, item_at, id_at}

pub record Case (A : Type 0) : Type 0 where
  pub index : ℕ
  pub body : List ℕ
  pub answer : Answer A

abbrev pub case : {A : Type 0} → ℕ → List ℕ → Answer A → Case A
case index body answer = record { index = index; body = body; answer = answer }

-- an id: 32 bytes
abbrev pub id : ℕ → List ℕ
id b = replicate 32 b

unfoldable pub id_cases : List (Case Segment)
id_cases =
    case 0 (2 ∷ 0 ∷ []) (refused 12)
    ∷ case 0 (2 ∷ 2 ∷ (id 7 ++ id 8)) (got (record { start = 2; bytes = id 7 }) 34)
    ∷ case 1 (2 ∷ 2 ∷ (id 7 ++ id 8)) (got (record { start = 34; bytes = id 8 }) 66)
    ∷ case 2 (2 ∷ 2 ∷ (id 7 ++ id 8)) (refused 12)
    -- a body that is refused, whatever the index
    ∷ case 0 (2 ∷ 2 ∷ id 7) (refused 1)
    ∷ case 9 (2 ∷ 2 ∷ id 7) (refused 1)
    ∷ case 9 (2 ∷ 0x91 ∷ 0x03 ∷ []) (refused 10)
    ∷ []

pub all_ids : map (λ (c : Case Segment). id_at c.index c.body) id_cases ≡ map (λ (c : Case Segment). c.answer) id_cases
unfolding id_cases id_at item_at item_by_index items items_start inventory_header count fold list_of groups vlq vlq_length
all_ids = refl

-- ---- what the code gives, and what its answers mean

pub inventory-given : inventory_of {A = ℕ} (2 ∷ 0x81 ∷ 0 ∷ id 7) 9 (5 ∷ []) ≡ record { modifier_type = 9; count = 1; start = record { 0 = 3 } }
unfolding items_start inventory_header count fold list_of groups vlq vlq_length
inventory-given = refl

pub all_answers : (i : Inventory) →
    (id_answer (Ok (record { 0 = 5 })) ≡ got 5 37)
    × (id_answer (Err LengthTooLarge) ≡ refused 3)
    × (read_answer {A = ℕ} (Ok (6, record { at = 7 })) ≡ got 6 7)
    × (read_answer {A = ℕ} (Err InvalidUtf8) ≡ refused 4)
    × (header_answer (Ok (record { modifier_type = 8; count = 9; start = record { 0 = 10 } })) ≡ got (record { type = 8; count = 9 }) 10)
    × (header_answer (Err FrameTooShort) ≡ refused 5)
    × (body_answer {A = Inventory} (Ok (i, record { 0 = 11 })) ≡ got i 11)
    × (body_answer {A = Inventory} (Err BadMagic) ≡ refused 6)
all_answers i = (refl, refl, refl, refl, refl, refl, refl, refl)
