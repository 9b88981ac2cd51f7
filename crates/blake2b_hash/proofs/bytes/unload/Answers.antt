-- The loop's invariant: the first i bytes are the state's. Assumes nothing.
use Rattle.std.proofs.Common.{◌≡◌, ℕ, ◌+◌, ◌*◌, ◌/◌, ◌%◌, ◌<◌, List, length, set, sym, refl, ap, ◌∙◌, arith}
use Rattle.blake2b.specs.Blake2b.{◌!◌, bytes, unwords}
use Rattle.blake2b.proofs.CheckLaws.{length-unwords}
use Rattle.blake2b_hash.proofs.Blocks.{unwords-at}
use Rattle.blake2b.proofs.FilledLaws.{filled, filled_more, filled-all}
use Rattle.blake2b_hash.proofs.bytes.unload.Goals as goal

more : (h out : List ℕ) (i x : ℕ) → length h ≡ 8 → i < 32 → x ≡ bytes 8 (h ! (i / 8)) ! (i % 8) → out ≡ filled 32 (unwords h) i
    → set out i x ≡ filled 32 (unwords h) (i + 1)
more h out i x e l ex eo =
    let k : i / 8 * 8 + i % 8 ≡ i = omega arith in
    ap (λ (u : List ℕ). set u i x) eo
    ∙ filled_more 32 (unwords h) i x (omega (arith, length-unwords h)) l
    (ex ∙ sym (unwords-at h (i / 8) (i % 8) (omega arith) (omega arith)) ∙ ap (unwords h !◌) k)

pub loop-i-init : goal.loop-i-init
loop-i-init c = (omega arith, refl)

pub loop-i-preserved : goal.loop-i-preserved
loop-i-preserved c = (omega arith, more _ _ _ _ (omega arith) (omega arith) c.byte_of.ensures c.loop-i.invariant.1)

pub returns : goal.returns
returns c = c.loop-i.invariant.1 ∙ filled-all 32 (unwords c.args.h) c.loop-i.i (omega arith)
