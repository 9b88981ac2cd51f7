-- What an answer of the code means that ends at a place of a body or of the stream: the value and the place, or the refusal's number.
use Rattle.std.specs.Prelude.{Result, Ok, Err}
use Rattle.wire.specs.Reader.{Answer, got, refused}
use Rattle.wire.specs.Refusals.{number}
use Rattle.wire.specs.declared.Refusal.{Refusal}
use Rattle.types.specs.declared.BodyPlace.{BodyPlace}
use Rattle.types.specs.declared.StreamPlace.{StreamPlace}

abbrev pub body_answer : {A : Type 0} → Result (A × BodyPlace) Refusal → Answer A
body_answer (Ok (a, place)) = got a place.0
body_answer (Err m) = refused (number m)

abbrev pub stream_answer : {A : Type 0} → Result (A × StreamPlace) Refusal → Answer A
stream_answer (Ok (a, place)) = got a place.0
stream_answer (Err m) = refused (number m)
