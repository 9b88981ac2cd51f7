-- Document 01, "Questions", Caller: a feature by index, inside and outside, and only once its entry has been read.
use Rattle.std.specs.Prelude.{ℕ, List, [], ◌∷◌, map, ◌≡◌, refl, Ok, Err}
use Rattle.wire.specs.Reader.{Answer, got, refused, fold, list_of}
use Rattle.wire.specs.declared.Refusal.TheVariants.{VlqOverflow}
use Rattle.vlq_utf8.specs.Utf8.{utf8_from, utf8}
use Rattle.vlq.specs.Vlq.{groups, vlq, vlq_length}
use Rattle.vlq.specs.ShortString.{string, short_string}
use Rattle.handshake.specs.Entry.{EntryFeature, version, address_if, feature, entry}
use Rattle.handshake_read.specs.Parts.{nth, feature_at}
use Rattle.handshake_read.specs.Answers.{size_answer}

pub record Case : Type 0 where
  pub index : ℕ
  -- from the feature count byte on
  pub features : List ℕ
  pub answer : Answer EntryFeature

abbrev case : ℕ → List ℕ → Answer EntryFeature → Case
case index features answer = record { index = index; features = features; answer = answer }

abbrev found : ℕ → ℕ → List ℕ → ℕ → Answer EntryFeature
found id start bytes next = got (record { id = id; body = record { start = start; bytes = bytes } }) next

-- an entry without agent, name and address
abbrev entry_with : List ℕ → List ℕ
entry_with features = 0 ∷ 6 ∷ 0 ∷ 1 ∷ 0 ∷ 0 ∷ features

unfoldable pub cases : List Case
cases =
    case 0 (0 ∷ []) (refused 12)
    ∷ case 0 (2 ∷ 16 ∷ 1 ∷ 7 ∷ 3 ∷ 0 ∷ []) (found 16 9 (7 ∷ []) 10)
    ∷ case 1 (2 ∷ 16 ∷ 1 ∷ 7 ∷ 3 ∷ 0 ∷ []) (found 3 12 [] 12)
    ∷ case 2 (2 ∷ 16 ∷ 1 ∷ 7 ∷ 3 ∷ 0 ∷ []) (refused 12)
    -- an entry that is refused, whatever the index
    ∷ case 0 (2 ∷ 16 ∷ 1 ∷ 7 ∷ 3 ∷ []) (refused 1)
    ∷ case 2 (2 ∷ 16 ∷ 1 ∷ 7 ∷ 3 ∷ []) (refused 1)
    ∷ case 0 (1 ∷ 16 ∷ 0x81 ∷ 0xa4 ∷ 0xe8 ∷ 0x07 ∷ []) (refused 3)
    ∷ []

pub all-cases : map (λ (c : Case). feature_at c.index (entry_with c.features) 0) cases ≡ map (λ (c : Case). c.answer) cases
unfolding cases nth feature_at fold list_of groups vlq vlq_length string short_string utf8_from utf8 version address_if feature entry
all-cases = refl

-- what the size's answers mean
pub all_answers : (size_answer (Ok 7) ≡ got 7 7) × (size_answer (Err VlqOverflow) ≡ refused 2)
all_answers = (refl, refl)
