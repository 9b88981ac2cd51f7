-- `vlq_utf8::is_short_ascii` meets its contract: the two blocks of four, eight or sixteen have no gap between them.
use Rattle.std.proofs.Common.{◌≡◌, ◌+◌, ◌-◌, length, arith, eqb-true}
use Rattle.vlq_utf8.proofs.AsciiLaws.{ascii_joined}
use Rattle.vlq_utf8.proofs.is_short_ascii.Goals as goal

pub returns-then-n-lt8 : goal.returns-then-n-lt8
returns-then-n-lt8 c z =
    let none : c.non_ascii-then-n-lt8.result + c.non_ascii-then-n-lt8-2.result ≡ 0 = eqb-true _ _ z in
    let n = length c.args.s.now in
    ascii_joined c.args.s.now 4 (n - 4) (n - (n - 4)) (c.non_ascii-then-n-lt8.ensures.1 (omega arith)) (c.non_ascii-then-n-lt8-2.ensures.1 (omega arith))
    (omega arith) (omega arith)

pub returns-then-n-le16 : goal.returns-then-n-le16
returns-then-n-le16 c z =
    let none : c.non_ascii-then-n-le16.result + c.non_ascii-then-n-le16-2.result ≡ 0 = eqb-true _ _ z in
    let n = length c.args.s.now in
    ascii_joined c.args.s.now 8 (n - 8) (n - (n - 8)) (c.non_ascii-then-n-le16.ensures.1 (omega arith)) (c.non_ascii-then-n-le16-2.ensures.1 (omega arith))
    (omega arith) (omega arith)

pub returns-then-n-le32 : goal.returns-then-n-le32
returns-then-n-le32 c z =
    let none : c.non_ascii-then-n-le32.result + c.non_ascii-then-n-le32-2.result ≡ 0 = eqb-true _ _ z in
    let n = length c.args.s.now in
    ascii_joined c.args.s.now 16 (n - 16) (n - (n - 16)) (c.non_ascii-then-n-le32.ensures.1 (omega arith)) (c.non_ascii-then-n-le32-2.ensures.1 (omega arith))
    (omega arith) (omega arith)
