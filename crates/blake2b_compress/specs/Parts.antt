-- Parts of the RFC's functions G and F, each computed by a function of the code.
-- Only for laws, proofs and private functions: no public contract and no theorem cites what follows.
use Rattle.std.specs.Prelude.{ℕ, ◌+◌, ◌%◌, ◌^◌, Bool, List, [], ◌∷◌, ◌++◌, set, slice_index_or, slice_set}
use Rattle.blake2b.specs.Blake2b.{w, ◌⊕◌, ◌>>◌, ◌>>>◌, ◌!◌, for, IV, SIGMA, G, round, flagged}

-- half of each of the four calls of G on the columns, and of the four on the diagonals, whose v[a] are v[0] to v[3]: their lines with one message
-- word, rotating by p and by q, in three passes over the four

-- v[a] := v[a] + x
unfoldable pub add_words : List ℕ → ℕ → ℕ → ℕ → ℕ → List ℕ
add_words v x0 x1 x2 x3 =
    let v : List ℕ = set v 0 ((v ! 0 + x0) % 2 ^ w) in
    let v : List ℕ = set v 1 ((v ! 1 + x1) % 2 ^ w) in
    let v : List ℕ = set v 2 ((v ! 2 + x2) % 2 ^ w) in
    slice_set v 3 ((v ! 3 + x3) % 2 ^ w)

-- v[a] := v[a] + v[b], v[d] := v[d] ^ v[a]
unfoldable pub half_start : List ℕ → ℕ → ℕ → ℕ → List ℕ
half_start v a b d =
    let v : List ℕ = set v a ((v ! a + v ! b) % 2 ^ w) in
    slice_set v d (v ! d ⊕ v ! a)

-- v[d] := v[d] >>> p, v[c] := v[c] + v[d], v[b] := (v[b] ^ v[c]) >>> q
unfoldable pub half_end : List ℕ → ℕ → ℕ → ℕ → ℕ → ℕ → List ℕ
half_end v b c d p q =
    let v : List ℕ = set v d (v ! d >>> p) in
    let v : List ℕ = set v c ((v ! c + v ! d) % 2 ^ w) in
    slice_set v b ((v ! b ⊕ v ! c) >>> q)

unfoldable pub half_columns : List ℕ → ℕ → ℕ → ℕ → ℕ → ℕ → ℕ → List ℕ
half_columns v x0 x1 x2 x3 p q =
    let v : List ℕ = add_words v x0 x1 x2 x3 in
    let v : List ℕ = half_start (half_start (half_start (half_start v 0 4 12) 1 5 13) 2 6 14) 3 7 15 in
    half_end (half_end (half_end (half_end v 4 8 12 p q) 5 9 13 p q) 6 10 14 p q) 7 11 15 p q

unfoldable pub half_diagonals : List ℕ → ℕ → ℕ → ℕ → ℕ → ℕ → ℕ → List ℕ
half_diagonals v x0 x1 x2 x3 p q =
    let v : List ℕ = add_words v x0 x1 x2 x3 in
    let v : List ℕ = half_start (half_start (half_start (half_start v 0 5 15) 1 6 12) 2 7 13) 3 4 14 in
    half_end (half_end (half_end (half_end v 5 10 15 p q) 6 11 12 p q) 7 8 13 p q) 4 9 14 p q

-- the schedule as it is kept: the ten rows of SIGMA one after the other
unfoldable pub joined : List (List ℕ) → List ℕ
joined [] = []
joined (row ∷ rows) = row ++ joined rows

abbrev pub kept : List ℕ
kept = joined SIGMA

-- m[s[j]] in round i
unfoldable pub selected : List ℕ → ℕ → ℕ → ℕ
selected m i j = m ! (slice_index_or SIGMA (i % 10) [] ! j)

-- a round's four calls of G on the columns, and its four on the diagonals
unfoldable pub on_columns : List ℕ → ℕ → List ℕ → List ℕ
on_columns m i v =
    let v : List ℕ = G v 0 4 8 12 (selected m i 0) (selected m i 1) in
    let v : List ℕ = G v 1 5 9 13 (selected m i 2) (selected m i 3) in
    let v : List ℕ = G v 2 6 10 14 (selected m i 4) (selected m i 5) in
    G v 3 7 11 15 (selected m i 6) (selected m i 7)

unfoldable pub on_diagonals : List ℕ → ℕ → List ℕ → List ℕ
on_diagonals m i v =
    let v : List ℕ = G v 0 5 10 15 (selected m i 8) (selected m i 9) in
    let v : List ℕ = G v 1 6 11 12 (selected m i 10) (selected m i 11) in
    let v : List ℕ = G v 2 7 8 13 (selected m i 12) (selected m i 13) in
    G v 3 4 9 14 (selected m i 14) (selected m i 15)

-- four rounds, from round i on
unfoldable pub four : List ℕ → ℕ → List ℕ → List ℕ
four m i v = round m (i + 3) (round m (i + 2) (round m (i + 1) (round m i v)))

-- the work vector before the rounds
unfoldable pub work : List ℕ → ℕ → Bool → List ℕ
work h t f =
    let v : List ℕ = h ++ IV in
    let v : List ℕ = set v 12 (v ! 12 ⊕ t % 2 ^ w) in
    let v : List ℕ = set v 13 (v ! 13 ⊕ (t >> w)) in
    flagged f v

-- the state with the two halves of the work vector
unfoldable pub xored : List ℕ → List ℕ → List ℕ
xored h v = for 8 (λ i h. set h i (h ! i ⊕ v ! i ⊕ v ! (i + 8))) h
