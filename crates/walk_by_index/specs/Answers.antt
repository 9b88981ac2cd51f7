-- What the code's answer about an id means.
use Rattle.std.specs.Prelude.{◌+◌, Result, Ok, Err}
use Rattle.wire.specs.Reader.{Answer, got, refused}
use Rattle.wire.specs.Refusals.{number}
use Rattle.wire.specs.declared.Refusal.{Refusal}
use Rattle.types.specs.declared.StreamPlace.{StreamPlace}

-- an id ends 32 bytes after its place
abbrev pub stream_id_answer : Result StreamPlace Refusal → Answer StreamPlace
stream_id_answer (Ok p) = got p (p.0 + 32)
stream_id_answer (Err m) = refused (number m)
