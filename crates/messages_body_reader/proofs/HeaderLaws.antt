-- The header from the answers of a reader that moves as it reads.
use Rattle.std.specs.Prelude.{ℕ, Bool, true, false, cond, List, ◌≡◌, refl, leb}
use Rattle.wire.specs.Reader.{Answer, got, refused, bind, byte}
use Rattle.vlq.specs.Vlq.{vlq_length}
use Rattle.types.specs.declared.BodyPlace.{BodyPlace}
use Rattle.messages.specs.Message.{max_inv_objects, count, InventoryHeader, inventory_header}
use Rattle.messages_body_reader.specs.declared.BodyReader.{BodyReader}
use Rattle.messages_body_reader.specs.Reading.{place_after, read_by, moved_by}
use Rattle.messages_body_reader.specs.Header.{header_of}

abbrev counted : Answer ℕ → Answer ℕ
counted c = bind c (λ n next. cond (leb n max_inv_objects) (got n next) (refused 10))

abbrev headed : ℕ → Answer ℕ → Answer InventoryHeader
headed type c = bind c (λ n next. got (record { type = type; count = n }) next)

-- after any second answer
after-count : (type at : ℕ) (c : Answer ℕ) → header_of (got type at) c ≡ headed type (counted c)
after-count type at (got n next) = go (leb n max_inv_objects)
  where
    go : (b : Bool) → cond b (got (record { type = type; count = n }) next) (refused 10) ≡ headed type (cond b (got n next) (refused 10))
    go true = refl
    go false = refl
after-count type at (refused m) = refl

-- after any first answer
after-answer : (s : List ℕ) (at : BodyPlace) (a : Answer ℕ) → header_of a (vlq_length s (place_after at a).0) ≡ bind a (λ type next. headed type (counted (vlq_length s next)))
after-answer s at (got type next) = after-count type next (vlq_length s next)
after-answer s at (refused m) = refl

pub header-reads : (r : BodyReader) → header_of (read_by byte r) (read_by vlq_length (moved_by byte r)) ≡ inventory_header r.body.now r.at.0
unfolding inventory_header count
header-reads r = after-answer r.body.now r.at (read_by byte r)
