-- What an answer of the code means: the value and the next place, or the refusal's number.
use Rattle.std.specs.Prelude.{Result, Ok, Err}
use Rattle.wire.specs.Reader.{Answer, got, refused}
use Rattle.wire.specs.Refusals.{number}
use Rattle.wire.specs.declared.Refusal.{Refusal}
use Rattle.vlq.specs.declared.Cursor.{Cursor}

abbrev pub read_answer : {A : Type 0} → Result (A × Cursor) Refusal → Answer A
read_answer (Ok (a, c)) = got a c.at
read_answer (Err m) = refused (number m)
