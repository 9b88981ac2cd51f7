-- `vlq_utf8::is_ascii_or_sequence` meets its contract: bytes up to 0x7F stand alone.
use Rattle.std.proofs.Common.{sym, ◌∙◌}
use Rattle.vlq_utf8.proofs.AsciiLaws.{ascii-utf8}
use Rattle.vlq_utf8.proofs.is_ascii_or_sequence.Goals as goal

pub returns-then-is_long_ascii : goal.returns-then-is_long_ascii
returns-then-is_long_ascii c = c.if-is_long_ascii.true ∙ sym (ascii-utf8 _ (c.is_long_ascii.ensures c.if-is_long_ascii.true))
