-- `vlq_utf8::is_long_ascii` meets its contract: the first 64 bytes and the last have no gap between them.
use Rattle.std.proofs.Common.{◌-◌, length, arith, sym, ◌∙◌, length-take-le, true≢false}
use Rattle.std.proofs.lemmas.Bool.{MatchBool-at_true}
use Rattle.vlq_utf8.proofs.AsciiLaws.{ascii_joined}
use Rattle.vlq_utf8.proofs.is_long_ascii.Goals as goal
use Rattle.vlq_utf8.proofs.is_long_ascii.Goals.{then-is_ascii, else-is_ascii}

pub slice_bounds-is_ascii-end : goal.slice_bounds-is_ascii-end
slice_bounds-is_ascii-end c = omega (arith, length-take-le 64 c.args.s.now (omega arith))

pub returns-then-n-le128 : goal.returns-then-n-le128
returns-then-n-le128 c z =
    elim c.if-is_ascii.branch [
      | then-is_ascii w ↦
          let n = length c.args.s.now in
          ascii_joined c.args.s.now 64 (n - 64) (n - (n - 64)) w.if-is_ascii.ensures.cases (MatchBool-at_true _ _ (sym w.result-is ∙ z) w.is_ascii-then-is_ascii.ensures.cases)
          (omega arith) (omega arith)
      | else-is_ascii w ↦ absurd (true≢false (sym z ∙ w.result-is ∙ w.if-is_ascii.false))
    ]
