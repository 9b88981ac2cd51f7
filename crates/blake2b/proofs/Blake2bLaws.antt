-- Laws of the RFC's definitions: words and what stands after them, and the number of blocks before the last. Assumes nothing.
use Rattle.std.specs.Prelude.{◌≡◌, refl, List, ◌∷◌, ◌++◌, ℕ, zero, suc, ◌+◌, ◌-◌, ◌*◌, ◌/◌, ◌≤◌, length, take, drop, replicate}
use Rattle.std.proofs.Common.{ap, ap₂, sym, ◌∙◌, arith, length-append, length-drop, take-append-drop, length-take-le}
use Rattle.std.proofs.lemmas.List.{length-replicate, take-append-le, drop-append-le}
use Rattle.blake2b.specs.Blake2b.{bb, word, words, dd, d}

-- n words are not changed by what stands after their bytes
pub words_append : (n : ℕ) (s t : List ℕ) → n * 8 ≤ length s → words n (s ++ t) ≡ words n s
unfolding words
words_append zero s t h = refl
words_append (suc n) s t h =
    let e : 8 ≤ length s = omega arith in
    ap₂ ◌∷◌ (ap word (take-append-le 8 s t e))
    (ap (words n) (drop-append-le 8 s t e) ∙ words_append n (drop 8 s) t (simp length-drop (omega arith)))

pub words_take : (s : List ℕ) → bb ≤ length s → words 16 (take bb s) ≡ words 16 s
words_take s h =
    sym (words_append 16 (take bb s) (drop bb s) (rw (length-take-le bb s h) (omega arith))) ∙ ap (words 16) (take-append-drop bb s)

-- a block as its bytes, the padding with them
pub d-padded : (s : List ℕ) (i : ℕ) → words 16 (take bb (drop (i * bb) s ++ replicate bb 0)) ≡ d s i
unfolding d
d-padded s i = words_take (drop (i * bb) s ++ replicate bb 0) (simp (length-append, length-replicate) (omega arith))

-- a whole block of the input is not padded
pub d-whole : (s : List ℕ) (i : ℕ) → i * bb + bb ≤ length s → d s i ≡ words 16 (drop (i * bb) s)
unfolding d
d-whole s i h = words_append 16 (drop (i * bb) s) (replicate bb 0) (simp length-drop (omega arith))

-- the blocks before the last
pub dd-before : (n : ℕ) → dd n - 1 ≡ (n - 1) / bb
unfolding dd
dd-before n = omega arith
