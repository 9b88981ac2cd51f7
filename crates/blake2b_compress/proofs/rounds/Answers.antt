-- Three times four rounds are the twelve of F. Assumes nothing.
use Rattle.std.proofs.Common.{◌≡◌, ℕ, List, sym, ap, ◌∙◌}
use Rattle.blake2b.specs.Blake2b.{for, round}
use Rattle.blake2b_compress.specs.Parts.{four}
use Rattle.blake2b_compress.proofs.PartsLaws.{rounds_fours}
use Rattle.blake2b_compress.proofs.rounds.Goals as goal

law : (m v a b x : List ℕ) → a ≡ four m 0 v → b ≡ four m 4 a → x ≡ four m 8 b → x ≡ for 12 (round m) v
law m v a b x ea eb ex = ex ∙ ap (four m 8) (eb ∙ ap (four m 4) ea) ∙ sym (rounds_fours m v)

pub returns : goal.returns
returns c = law _ _ _ _ _ c.four_rounds-v.ensures c.four_rounds-v-2.ensures c.four_rounds.ensures
