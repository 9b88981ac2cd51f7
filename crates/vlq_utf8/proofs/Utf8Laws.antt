-- Laws of utf8: the empty list is UTF-8, and of bytes that begin with UTF-8 the rest decides.
use Rattle.std.specs.Prelude.{Option, Some, None, ℕ, zero, suc, Bool, true, ◌&&◌, List, [], ◌∷◌, ◌++◌, ◌≡◌, refl, leb}
use Rattle.std.proofs.lemmas.Bool.{false≢true}
use Rattle.std.proofs.Common.{ap, ◌∙◌, eqb-true}
use Rattle.wire.proofs.BytesLaws.{and-true}
use Rattle.vlq_utf8.specs.declared.Lead.{Lead}
use Rattle.vlq_utf8.specs.Utf8.{lead_of, after_lead, utf8_from, utf8}

pub utf8_nil : utf8 [] ≡ true
unfolding utf8 utf8_from
utf8_nil = refl

-- where no follower is due, the bounds play no part
pub none_due : (bs : List ℕ) (low high low' high' : ℕ) → utf8_from bs 0 low high ≡ utf8_from bs 0 low' high'
unfolding utf8_from
none_due [] low high low' high' = refl
none_due (b ∷ bs) low high low' high' = refl

after-append : (v : Option Lead) (f g : ℕ → ℕ → ℕ → Bool) (r : Bool) → ((n low high : ℕ) → f n low high ≡ true → g n low high ≡ r)
    → after_lead v f ≡ true → after_lead v g ≡ r
after-append (Some lead) f g r ih e = ih lead.followers lead.low lead.high e
after-append None f g r ih e = absurd (false≢true e)

from-append : (xs ys : List ℕ) (n low high : ℕ) → utf8_from xs n low high ≡ true → utf8_from (xs ++ ys) n low high ≡ utf8 ys
unfolding utf8 utf8_from
from-append [] ys n low high e = ap (λ (m : ℕ). utf8_from ys m low high) (eqb-true n 0 e) ∙ none_due ys low high 0x80 0xbf
from-append (x ∷ xs) ys zero low high e = after-append (lead_of x) (utf8_from xs) (utf8_from (xs ++ ys)) (utf8 ys) (from-append xs ys) e
from-append (x ∷ xs) ys (suc n) low high e =
    let p = and-true (leb low x && leb x high) (utf8_from xs n 0x80 0xbf) e in
    rw p.0 (from-append xs ys n 0x80 0xbf p.1)

pub utf8_append : (xs ys : List ℕ) → utf8 xs ≡ true → utf8 (xs ++ ys) ≡ utf8 ys
unfolding utf8
utf8_append xs ys e = from-append xs ys 0 0x80 0xbf e
