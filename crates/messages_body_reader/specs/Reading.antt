-- What a reader of a body answers, and where it stands afterwards: at the next place of what it read, or on a refusal
-- where it was.
use Rattle.wire.specs.Reader.{Answer, got, refused, Reader, map_answer}
use Rattle.types.specs.declared.BodyPlace.{BodyPlace}
use Rattle.messages_body_reader.specs.declared.BodyReader.{BodyReader}

-- the next place of an answer, or the place at on a refusal
abbrev pub place_after : {A : Type 0} → BodyPlace → Answer A → BodyPlace
place_after at (got a next) = record { 0 = next }
place_after at (refused m) = at

-- p, its value turned by f
abbrev pub mapped : {A B : Type 0} → (A → B) → Reader A → Reader B
mapped f p s at = map_answer f (p s at)

-- what p reads where the reader stands
abbrev pub read_by : {A : Type 0} → Reader A → BodyReader → Answer A
read_by p r = p r.body.now r.at.0

-- the reader after p has read
abbrev pub moved_by : {A : Type 0} → Reader A → BodyReader → BodyReader
moved_by p r = record { body = r.body; at = place_after r.at (read_by p r) }
