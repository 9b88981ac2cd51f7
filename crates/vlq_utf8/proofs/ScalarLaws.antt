-- What utf8 accepts, said by the meaning: exactly the encodings of lists of scalar values, each of one list only (RFC 3629, sections 3 and 4).
use Rattle.std.specs.Prelude.{ℕ, true, List, ◌↔◌, ◌≡◌}
use Rattle.std.proofs.Common.{sym, ap, ◌∙◌}
use Rattle.vlq_utf8.specs.Utf8.{utf8}
use Rattle.vlq_utf8.specs.Scalars.{EncodingOf}
use Rattle.vlq_utf8.proofs.ScalarStepLaws.{accepted, encoded, only_one}

pub record OneEncoding (bs : List ℕ) : Type 0 where
  pub scalars : List ℕ
  pub encodes : EncodingOf scalars bs
  pub only : (cs : List ℕ) → EncodingOf cs bs → cs ≡ scalars

pub utf8_meaning : (bs : List ℕ) → (utf8 bs ≡ true) ↔ OneEncoding bs
utf8_meaning bs = (to, from)
  where
    to : utf8 bs ≡ true → OneEncoding bs
    to e = let t = encoded bs e in record { scalars = t.0; encodes = t.1; only = λ cs u. only_one bs cs t.0 u t.1 }

    from : OneEncoding bs → utf8 bs ≡ true
    from t = ap utf8 (sym t.encodes.bytes) ∙ accepted t.scalars t.encodes.scalars
