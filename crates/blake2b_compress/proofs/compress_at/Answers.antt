-- F, from its parts. Assumes nothing.
use Rattle.std.proofs.Common.{◌≡◌, ℕ, Bool, List, sym, ap, ◌∙◌}
use Rattle.blake2b.specs.Blake2b.{for, round, F}
use Rattle.blake2b_compress.specs.Parts.{work, xored}
use Rattle.blake2b_compress.proofs.PartsLaws.{F_parts}
use Rattle.blake2b_compress.proofs.compress_at.Goals as goal

law : (h m v u r : List ℕ) (t : ℕ) (f : Bool) → v ≡ work h t f → u ≡ for 12 (round m) v → r ≡ xored h u → r ≡ F h m t f
law h m v u r t f ev eu er = er ∙ ap (xored h) (eu ∙ ap (for 12 (round m)) ev) ∙ sym (F_parts h m t f)

pub returns : goal.returns
returns c = law _ _ _ _ _ _ _ c.work_vector-v.ensures c.rounds-v.ensures c.xor_halves.ensures
