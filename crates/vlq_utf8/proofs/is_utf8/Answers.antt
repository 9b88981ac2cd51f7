-- `vlq_utf8::is_utf8` meets its contract: bytes up to 0x7F stand alone.
use Rattle.std.proofs.Common.{sym, ◌∙◌}
use Rattle.vlq_utf8.proofs.AsciiLaws.{ascii-utf8}
use Rattle.vlq_utf8.proofs.is_utf8.Goals as goal

pub returns-then-is_short_ascii : goal.returns-then-is_short_ascii
returns-then-is_short_ascii c = c.if-is_short_ascii.true ∙ sym (ascii-utf8 _ (c.is_short_ascii.ensures c.if-is_short_ascii.true))
