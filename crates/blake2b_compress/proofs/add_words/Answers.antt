-- Four stores, each of a sum with a message word. Assumes nothing.
use Rattle.std.proofs.Common.{◌≡◌, ℕ, ◌+◌, ◌%◌, ◌^◌, List, set}
use Rattle.blake2b.specs.Blake2b.{w, ◌!◌}
use Rattle.blake2b_compress.specs.Parts.{add_words}
use Rattle.blake2b_compress.proofs.add_words.Goals as goal

stores : (v : List ℕ) (x0 x1 x2 x3 s t u y : ℕ) → s ≡ (v ! 0 + x0) % 2 ^ w
    → t ≡ (set v 0 s ! 1 + x1) % 2 ^ w
    → u ≡ (set (set v 0 s) 1 t ! 2 + x2) % 2 ^ w
    → y ≡ (set (set (set v 0 s) 1 t) 2 u ! 3 + x3) % 2 ^ w
    → set (set (set (set v 0 s) 1 t) 2 u) 3 y ≡ add_words v x0 x1 x2 x3
unfolding add_words
stores v x0 x1 x2 x3 s t u y es et eu ey = cc

pub returns : goal.returns
returns c =
    stores _ _ _ _ _ _ _ _ _ c.wrapping_add_u64.ensures.value c.wrapping_add_u64-2.ensures.value
    c.wrapping_add_u64-3.ensures.value c.wrapping_add_u64-4.ensures.value
