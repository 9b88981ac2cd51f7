-- Document 01, "Questions", Caller: a payload by index, inside and outside, and only once the body has been read.
use Rattle.std.specs.Prelude.{ℕ, ◌+◌, List, [], ◌∷◌, ◌++◌, map, ◌≡◌, refl, Ok, Err}
use Rattle.wire.specs.Reader.{Answer, got, refused, Segment, fold, list_of}
use Rattle.wire.specs.declared.Refusal.TheVariants.{InvalidUtf8, FrameTooShort}
use Rattle.types.specs.Answers.{body_answer}
use Rattle.vlq.specs.Vlq.{groups, vlq, vlq_length}
use Rattle.messages.specs.Message.{Payload, count, inventory_header, total, payload_after, payload}
use Rattle.messages_inventory_read.proofs.Cases.{Case, case, id}
use Rattle.messages_inventory_read.specs.Parts.{items, items_start, item_by_index, item_at}
use Rattle.messages_response_read.specs.Answers.{payload_sum}
use Rattle.messages_response_read.specs.declared.Payload as Given
use Rattle.messages_response_read.specs.Parts.{payload_at}

abbrev found : ℕ → ℕ → List ℕ → ℕ → Answer Payload
found b start bytes next =
    got (record { id = record { start = start; bytes = id b }; body = record { start = start + 33; bytes = bytes } }) next

-- two payloads, of 1 byte and of none
abbrev two : List ℕ
two = 2 ∷ 2 ∷ (id 7 ++ (1 ∷ 5 ∷ (id 8 ++ (0 ∷ []))))

unfoldable pub payload_cases : List (Case Payload)
payload_cases =
    case 0 (2 ∷ 0 ∷ []) (refused 12)
    ∷ case 0 two (found 7 2 (5 ∷ []) 36)
    ∷ case 1 two (found 8 36 [] 69)
    ∷ case 2 two (refused 12)
    -- a body that is refused, whatever the index
    ∷ case 0 (2 ∷ 2 ∷ (id 7 ++ (0 ∷ []))) (refused 1)
    ∷ case 9 (2 ∷ 2 ∷ (id 7 ++ (0 ∷ []))) (refused 1)
    ∷ case 9 (2 ∷ 1 ∷ (id 7 ++ (36 ∷ []))) (refused 11)
    ∷ []

pub all-payloads : map (λ (c : Case Payload). payload_at c.index c.body) payload_cases ≡ map (λ (c : Case Payload). c.answer) payload_cases
unfolding payload_cases payload_at item_at item_by_index items items_start inventory_header count total payload_after payload fold list_of groups vlq vlq_length
all-payloads = refl

-- ---- what the code gives, and what its answers mean

-- the lengths before this payload, and its own
pub sum-given : (id : Segment) → (payload_sum 20 (record { id = id; body = record { start = 40; bytes = 1 ∷ 2 ∷ [] } })).1 ≡ 22
sum-given id = refl

pub all_answers : (p : Given.Payload) →
    (body_answer {A = Given.Payload} (Ok (p, record { 0 = 6 })) ≡ got p 6)
    × (body_answer {A = Given.Payload} (Err InvalidUtf8) ≡ refused 4)
    × (body_answer {A = Given.Payload × ℕ} (Ok ((p, 8), record { 0 = 7 })) ≡ got (p, 8) 7)
    × (body_answer {A = Given.Payload × ℕ} (Err FrameTooShort) ≡ refused 5)
all_answers p = (refl, refl, refl, refl)
