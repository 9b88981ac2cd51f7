-- The two words of the counter, the high one with the carry, are the number that the running hash counts by. Assumes nothing.
use Rattle.std.proofs.Common.{◌≡◌, ℕ, ◌+◌, ◌-◌, ◌*◌, ◌/◌, ◌%◌, ◌^◌, ◌<◌, true, false, List, ◌++◌, length, take, drop, replicate, sym, ap, ◌∙◌, ap₂, add_comm, arith}
use lib.Pow.{mod-pow-add}
use Rattle.blake2b_hash.specs.declared.Hash.{Hash}
use Rattle.blake2b.specs.Blake2b.{w, bb, ll_bound, words, F}
use Rattle.blake2b.proofs.Blake2bLaws.{d-padded}
use Rattle.blake2b_hash.specs.Running.{hash, counted, advanced, ended}

-- the low word, and the high word with the carry
counted_words : (x : Hash) (n low high : ℕ) → low ≡ (x.t0 + n) % 2 ^ w → high ≡ (x.t1 + (x.t0 + n) / 2 ^ w) % 2 ^ w
    → low + high * 2 ^ w ≡ counted x n
unfolding counted ll_bound
counted_words x n low high el eh =
    let t : ℕ = x.t0 + x.t1 * 2 ^ w + n in
    let l : t % 2 ^ w ≡ low = omega arith in
    let q : t / 2 ^ w ≡ x.t1 + (x.t0 + n) / 2 ^ w = omega arith in
    let h : t / 2 ^ w % 2 ^ w ≡ high = ap (λ (k : ℕ). k % 2 ^ w) q ∙ sym eh in
    sym (mod-pow-add t w w ∙ ap₂ (λ (a b : ℕ). a * 2 ^ w + b) h l ∙ add_comm (high * 2 ^ w) low)

-- two words and their number
hash-words : (h : List ℕ) (low high : ℕ) → low < 2 ^ w → hash h (low + high * 2 ^ w) ≡ record { h = h; t0 = low; t1 = high }
hash-words h low high l =
    let a : (low + high * 2 ^ w) % 2 ^ w ≡ low = omega arith in
    let b : (low + high * 2 ^ w) / 2 ^ w ≡ high = omega arith in
    rw (a, b)

-- a block advances the state and both words
pub advanced-words : (x : Hash) (m h : List ℕ) (low high : ℕ) → low ≡ (x.t0 + bb) % 2 ^ w → high ≡ (x.t1 + (x.t0 + bb) / 2 ^ w) % 2 ^ w
    → h ≡ F x.h m (low + high * 2 ^ w) false → record { h = h; t0 = low; t1 = high } ≡ advanced x m
unfolding advanced
advanced-words x m h low high el eh e =
    let l : low < 2 ^ w = omega arith in
    sym (hash-words h low high l) ∙ ap (λ (g : List ℕ). hash g (low + high * 2 ^ w)) e
    ∙ ap (λ (t : ℕ). hash (F x.h m t false) t) (counted_words x bb low high el eh)

-- the last block gives the digest's state
pub ended-words : (x : Hash) (s : List ℕ) (i : ℕ) (b m h : List ℕ) (low high : ℕ) → low ≡ (x.t0 + (length s - i * bb)) % 2 ^ w
    → high ≡ (x.t1 + (x.t0 + (length s - i * bb)) / 2 ^ w) % 2 ^ w → b ≡ take bb (drop (i * bb) s ++ replicate bb 0) → m ≡ words 16 b
    → h ≡ F x.h m (low + high * 2 ^ w) true → h ≡ ended x s i
unfolding ended
ended-words x s i b m h low high el eh eb em e =
    e ∙ ap₂ (λ (u : List ℕ) (t : ℕ). F x.h u t true) (em ∙ ap (words 16) eb ∙ d-padded s i)
    (counted_words x (length s - i * bb) low high el eh)
