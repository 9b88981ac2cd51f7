-- The running hash: the state h with the offset counter t, kept as a low and a high word, goes from block to block.
-- Its definitions are 3.3's loop and last call of F from any state and counter on; the counter goes modulo 2 ** 128.
use Rattle.std.specs.Prelude.{ℕ, ◌+◌, ◌-◌, ◌*◌, ◌%◌, ◌^◌, true, false, List, length, take, drop}
use Rattle.blake2b_hash.specs.declared.Hash.{Hash}
use Rattle.blake2b.specs.Blake2b.{w, bb, ll_bound, ◌>>◌, for, words, unwords, F, dd, d, h0}

abbrev pub hash : List ℕ → ℕ → Hash
hash h t = record { h = h; t0 = t % 2 ^ w; t1 = t >> w }

-- the counter, n bytes further
unfoldable pub counted : Hash → ℕ → ℕ
counted x n = (x.t0 + x.t1 * 2 ^ w + n) % ll_bound

-- before the first block
unfoldable pub started : ℕ → Hash
started nn = hash (h0 nn) 0

-- after the words of a block that is not the last
unfoldable pub advanced : Hash → List ℕ → Hash
advanced x m =
    let t : ℕ = counted x bb in
    hash (F x.h m t false) t

-- after the bytes of a block that is not the last
unfoldable pub stepped : Hash → List ℕ → Hash
stepped x block = advanced x (words 16 block)

-- after the first n blocks of s, none of which is the last
unfoldable pub absorbed : Hash → List ℕ → ℕ → Hash
absorbed x s n = for n (λ i x. advanced x (d s i)) x

-- the state after the last block of rest, which is its block i
unfoldable pub ended : Hash → List ℕ → ℕ → List ℕ
ended x rest i = F x.h (d rest i) (counted x (length rest - i * bb)) true

-- the digest of nn bytes: the blocks of rest before its last, then its last
unfoldable pub finished : ℕ → Hash → List ℕ → List ℕ
finished nn x rest =
    let i : ℕ = dd (length rest) - 1 in
    take nn (unwords (ended (absorbed x rest i) rest i))

-- ---- Only for laws, proofs and private functions: no public contract and no theorem cites what follows.

-- a whole run: start, a step for each of the first k blocks of s, and finish with the rest
unfoldable pub run : ℕ → List ℕ → ℕ → List ℕ
run nn s k = finished nn (for k (λ i x. stepped x (take bb (drop (i * bb) s))) (started nn)) (drop (k * bb) s)
