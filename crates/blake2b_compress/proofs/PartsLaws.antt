-- A round and F are made of their parts. Assumes nothing.
use Rattle.std.proofs.Common.{◌≡◌, ℕ, ◌+◌, ◌%◌, ◌^◌, Bool, List, length, set, sym, refl, ap, ◌∙◌, arith, length-set}
use Rattle.blake2b.specs.Blake2b.{w, r, R1, R2, R3, R4, ◌⊕◌, ◌>>>◌, ◌!◌, for, G, round, F}
use Rattle.blake2b_compress.specs.Parts.{half_columns, half_diagonals, add_words, half_start, half_end, selected, on_columns, on_diagonals, four, work, xored}
use Rattle.blake2b.proofs.ElementsLaws.{elements, whole}

-- what holds of n words that are written out holds of a list of n words
same-words : (n : ℕ) (f g : List ℕ → List ℕ) → ((v : List ℕ) → f (elements v 0 n) ≡ g (elements v 0 n)) → (v : List ℕ) → length v ≡ n → f v ≡ g v
same-words n f g same v e = ap f (whole v n e) ∙ same v ∙ sym (ap g (whole v n e))

-- the sum of G's first line, with the message word added first
word_first : (a b x : ℕ) → ((a + x) % 2 ^ w + b) % 2 ^ w ≡ (a + b + x) % 2 ^ w
word_first a b x = omega arith

-- half of G, its lines one after the other, the sum of the first being s
lines : List ℕ → ℕ → ℕ → ℕ → ℕ → ℕ → ℕ → ℕ → List ℕ
lines v a b c d p q s =
    let v : List ℕ = set v a s in
    let v : List ℕ = set v d ((v ! d ⊕ v ! a) >>> p) in
    let v : List ℕ = set v c ((v ! c + v ! d) % 2 ^ w) in
    set v b ((v ! b ⊕ v ! c) >>> q)

half : List ℕ → ℕ → ℕ → ℕ → ℕ → ℕ → ℕ → ℕ → List ℕ
half v a b c d p q x = lines v a b c d p q ((v ! a + v ! b + x) % 2 ^ w)

-- four in a row, of the columns and of the diagonals
abbrev EachHalf : Type 0
EachHalf = List ℕ → ℕ → ℕ → ℕ → ℕ → ℕ → ℕ → ℕ → List ℕ

in_columns : EachHalf → ℕ → ℕ → List ℕ → ℕ → ℕ → ℕ → ℕ → List ℕ
in_columns f p q v x0 x1 x2 x3 = f (f (f (f v 0 4 8 12 p q x0) 1 5 9 13 p q x1) 2 6 10 14 p q x2) 3 7 11 15 p q x3

in_diagonals : EachHalf → ℕ → ℕ → List ℕ → ℕ → ℕ → ℕ → ℕ → List ℕ
in_diagonals f p q v x0 x1 x2 x3 = f (f (f (f v 0 5 10 15 p q x0) 1 6 11 12 p q x1) 2 7 8 13 p q x2) 3 4 9 14 p q x3

length-columns : (p q x0 x1 x2 x3 : ℕ) (v : List ℕ) → length (in_columns half p q v x0 x1 x2 x3) ≡ length v
unfolding in_columns half lines
length-columns p q x0 x1 x2 x3 v = simp length-set

length-diagonals : (p q x0 x1 x2 x3 : ℕ) (v : List ℕ) → length (in_diagonals half p q v x0 x1 x2 x3) ≡ length v
unfolding in_diagonals half lines
length-diagonals p q x0 x1 x2 x3 v = simp length-set

sums : (f : ℕ → ℕ → ℕ → ℕ → List ℕ) {s t u v s' t' u' v' : ℕ} → s ≡ s' → t ≡ t' → u ≡ u' → v ≡ v' → f s t u v ≡ f s' t' u' v'
sums f es et eu ev = cc

-- The four calls of G on the columns have no word of the work vector in common, and so those on the diagonals: their halves can be done in passes.
passes-columns : (x0 x1 x2 x3 p q : ℕ) (v : List ℕ) → length v ≡ 16 → half_columns v x0 x1 x2 x3 p q ≡ in_columns half p q v x0 x1 x2 x3
unfolding half_columns add_words half_start half_end in_columns half lines
passes-columns x0 x1 x2 x3 p q =
    same-words 16 (λ v. half_columns v x0 x1 x2 x3 p q) (λ v. in_columns half p q v x0 x1 x2 x3)
    (λ v. sums (in_columns lines p q (elements v 0 16)) (word_first _ _ x0) (word_first _ _ x1) (word_first _ _ x2) (word_first _ _ x3))

passes-diagonals : (x0 x1 x2 x3 p q : ℕ) (v : List ℕ) → length v ≡ 16 → half_diagonals v x0 x1 x2 x3 p q ≡ in_diagonals half p q v x0 x1 x2 x3
unfolding half_diagonals add_words half_start half_end in_diagonals half lines
passes-diagonals x0 x1 x2 x3 p q =
    same-words 16 (λ v. half_diagonals v x0 x1 x2 x3 p q) (λ v. in_diagonals half p q v x0 x1 x2 x3)
    (λ v. sums (in_diagonals lines p q (elements v 0 16)) (word_first _ _ x0) (word_first _ _ x1) (word_first _ _ x2) (word_first _ _ x3))

-- And the four can be done by halves.
abbrev pub columns_by_halves : List ℕ → ℕ → List ℕ → List ℕ
columns_by_halves m i v =
    let v : List ℕ = half_columns v (selected m i 0) (selected m i 2) (selected m i 4) (selected m i 6) R1 R2 in
    half_columns v (selected m i 1) (selected m i 3) (selected m i 5) (selected m i 7) R3 R4

pub columns-halves : (m : List ℕ) (i : ℕ) (v : List ℕ) → length v ≡ 16 → columns_by_halves m i v ≡ on_columns m i v
unfolding on_columns G in_columns half lines
columns-halves m i v e =
    rw (passes-columns (selected m i 0) (selected m i 2) (selected m i 4) (selected m i 6) R1 R2 v e)
    (passes-columns (selected m i 1) (selected m i 3) (selected m i 5) (selected m i 7) R3 R4 _ (length-columns _ _ _ _ _ _ v ∙ e)
    ∙ same-words 16
    (λ v. in_columns half R3 R4 (in_columns half R1 R2 v (selected m i 0) (selected m i 2) (selected m i 4) (selected m i 6)) (selected m i 1) (selected m i 3) (selected m i 5) (selected m i 7))
    (on_columns m i) (λ v. refl) v e)

abbrev pub diagonals_by_halves : List ℕ → ℕ → List ℕ → List ℕ
diagonals_by_halves m i v =
    let v : List ℕ = half_diagonals v (selected m i 8) (selected m i 10) (selected m i 12) (selected m i 14) R1 R2 in
    half_diagonals v (selected m i 9) (selected m i 11) (selected m i 13) (selected m i 15) R3 R4

pub diagonals-halves : (m : List ℕ) (i : ℕ) (v : List ℕ) → length v ≡ 16 → diagonals_by_halves m i v ≡ on_diagonals m i v
unfolding on_diagonals G in_diagonals half lines
diagonals-halves m i v e =
    rw (passes-diagonals (selected m i 8) (selected m i 10) (selected m i 12) (selected m i 14) R1 R2 v e)
    (passes-diagonals (selected m i 9) (selected m i 11) (selected m i 13) (selected m i 15) R3 R4 _ (length-diagonals _ _ _ _ _ _ v ∙ e)
    ∙ same-words 16
    (λ v. in_diagonals half R3 R4 (in_diagonals half R1 R2 v (selected m i 8) (selected m i 10) (selected m i 12) (selected m i 14)) (selected m i 9) (selected m i 11) (selected m i 13) (selected m i 15))
    (on_diagonals m i) (λ v. refl) v e)

pub round-halves : (m : List ℕ) (i : ℕ) (v : List ℕ) → round m i v ≡ on_diagonals m i (on_columns m i v)
unfolding round on_columns on_diagonals selected
round-halves m i v = refl

pub rounds_fours : (m v : List ℕ) → for r (round m) v ≡ four m 8 (four m 4 (four m 0 v))
unfolding for four
rounds_fours m v = refl

pub F_parts : (h m : List ℕ) (t : ℕ) (f : Bool) → F h m t f ≡ xored h (for r (round m) (work h t f))
unfolding F work xored
F_parts h m t f = refl
