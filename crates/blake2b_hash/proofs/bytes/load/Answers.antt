-- The loop's invariant: the first i words are the block's. Assumes nothing.
use Rattle.std.proofs.Common.{◌≡◌, ℕ, ◌+◌, ◌*◌, ◌<◌, List, take, drop, set, sym, refl, ap, ◌∙◌, arith}
use lib.Seq.{take-length}
use Rattle.blake2b.specs.Blake2b.{word, words}
use Rattle.blake2b_hash.proofs.Blocks.{length-words, words-at}
use Rattle.blake2b.proofs.FilledLaws.{filled, filled_more, filled-all}
use Rattle.blake2b_hash.proofs.bytes.load.Goals as goal

more : (s m : List ℕ) (at i x : ℕ) → i < 16 → x ≡ word (take 8 (drop (at + i * 8) s)) → m ≡ filled 16 (words 16 (drop at s)) i
    → set m i x ≡ filled 16 (words 16 (drop at s)) (i + 1)
more s m at i x l ex em =
    ap (λ (u : List ℕ). set u i x) em
    ∙ filled_more 16 (words 16 (drop at s)) i x (omega (arith, length-words 16 (drop at s))) l (ex ∙ sym (words-at 16 s at i l))

all : (s m : List ℕ) (at i : ℕ) → i ≡ 16 → m ≡ filled 16 (words 16 (drop at s)) i → m ≡ words 16 (drop at s)
all s m at i e em =
    em ∙ filled-all 16 (words 16 (drop at s)) i e ∙ ap (λ (k : ℕ). take k (words 16 (drop at s))) (sym (length-words 16 (drop at s)))
    ∙ take-length (words 16 (drop at s))

pub loop-i-init : goal.loop-i-init
loop-i-init c = (omega arith, refl)

pub loop-i-preserved : goal.loop-i-preserved
loop-i-preserved c = (omega arith, more _ _ _ _ _ (omega arith) c.word_at.ensures c.loop-i.invariant.1)

pub returns : goal.returns
returns c = all c.args.s.now _ c.args.at c.loop-i.i (omega arith) c.loop-i.invariant.1
