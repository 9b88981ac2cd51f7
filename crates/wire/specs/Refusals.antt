-- The refusals and their numbers (document 01, "Questions, each with its number if no").
use Rattle.std.specs.Prelude.{ℕ}
use Rattle.wire.specs.declared.Refusal.{Refusal}
use Rattle.wire.specs.declared.Refusal.TheVariants as Refusals

abbrev pub number : Refusal → ℕ
number Refusals.UnexpectedEof = 1
number Refusals.VlqOverflow = 2
number Refusals.LengthTooLarge = 3
number Refusals.InvalidUtf8 = 4
number Refusals.FrameTooShort = 5
number Refusals.BadMagic = 6
number Refusals.BodyTooLarge = 7
number Refusals.FrameTruncated = 8
number Refusals.ChecksumMismatch = 9
number Refusals.CountExceedsCap = 10
number Refusals.PayloadExceedsBody = 11
number Refusals.Outside = 12
number Refusals.StringTooLong = 13
number Refusals.NoRoom = 14
number Refusals.InvalidInput = 15
number Refusals.BadTable = 16
