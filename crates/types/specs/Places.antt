-- The one conversion between the two kinds of place.
use Rattle.std.specs.Prelude.{Result, Ok, Err, ℕ, ◌+◌, ◌^◌, cond, ◌&&◌, ltb, leb}
use Rattle.types.specs.declared.StreamPlace.{StreamPlace}
use Rattle.types.specs.declared.BodyPlace.{BodyPlace}
use Rattle.wire.specs.declared.Refusal.{Refusal}
use Rattle.wire.specs.declared.Refusal.TheVariants.{Outside}

-- document 01, "The session walk": a body place becomes a stream place only through the body's start. The place is at most the body's
-- length, and the body's end fits a usize; otherwise Outside, 12 (document 01, "Questions", Caller)
unfoldable pub located : StreamPlace → ℕ → BodyPlace → Result StreamPlace Refusal
located start length p =
    cond (leb p.0 length && ltb (start.0 + length) (2 ^ 64))
    (Ok (record { 0 = start.0 + p.0 }))
    (Err Outside)
