-- BLAKE2b without a key, from RFC 7693: its constants and functions, in its order and under its names.
-- A word is a number below 2 ** w, a vector of words or bytes is a list, and v[i] is written v ! i.
use Rattle.std.specs.Prelude.{Bool, true, false, List, [], ◌∷◌, ◌++◌, ℕ, zero, suc, ◌+◌, ◌-◌, ◌*◌, ◌/◌, ◌%◌, ◌^◌, max, length, get_or, set, take, drop, replicate}
use Rattle.std.specs.Int.Bits.{bit_xor}

infixl 90 ◌!◌
infixl 65 ◌>>◌ ◌<<◌ ◌>>>◌
infixl 60 ◌⊕◌
-- 2.1: bits in a word
abbrev pub w : ℕ
w = 64

-- 2.1: rounds in F
abbrev pub r : ℕ
r = 12

-- 2.1: bytes in a block
abbrev pub bb : ℕ
bb = 128

-- 2.1: bytes of the key: none
abbrev pub kk : ℕ
kk = 0

-- 2.1: an input has fewer bytes than this
unfoldable pub ll_bound : ℕ
ll_bound = 2 ^ 128

-- 2.1: the rotations of G
abbrev pub R1 : ℕ
R1 = 32

abbrev pub R2 : ℕ
R2 = 24

abbrev pub R3 : ℕ
R3 = 16

abbrev pub R4 : ℕ
R4 = 63

-- 2.3: a ^ b, bit by bit
abbrev pub ◌⊕◌ : ℕ → ℕ → ℕ
◌⊕◌ a b = bit_xor a b

-- 2.3: x >> n, x << n and x >>> n
abbrev pub ◌>>◌ : ℕ → ℕ → ℕ
◌>>◌ x n = x / 2 ^ n

abbrev pub ◌<<◌ : ℕ → ℕ → ℕ
◌<<◌ x n = (x * 2 ^ n) % 2 ^ w

unfoldable pub ◌>>>◌ : ℕ → ℕ → ℕ
◌>>>◌ x n = (x >> n) ⊕ (x << (w - n))

-- v[i]
abbrev pub ◌!◌ : List ℕ → ℕ → ℕ
◌!◌ v i = get_or v i 0

-- FOR i = 0 TO n - 1 DO x := f i x
unfoldable pub for : {A : Type 0} → ℕ → (ℕ → A → A) → A → A
for zero f x = x
for (suc n) f x = f n (for n f x)

-- 2.4: bytes as a word, the least significant byte first, and a word as n bytes
unfoldable pub word : List ℕ → ℕ
word [] = 0
word (b ∷ bs) = b + word bs * 2 ^ 8

unfoldable pub bytes : ℕ → ℕ → List ℕ
bytes zero x = []
bytes (suc n) x = x % 2 ^ 8 ∷ bytes n (x / 2 ^ 8)

-- 2.4: the first n words of bytes, and words as bytes
unfoldable pub words : ℕ → List ℕ → List ℕ
words zero s = []
words (suc n) s = word (take 8 s) ∷ words n (drop 8 s)

unfoldable pub unwords : List ℕ → List ℕ
unwords [] = []
unwords (x ∷ xs) = bytes 8 x ++ unwords xs

-- 2.5: p[0] of the parameter block, 0x0101kknn; its other words are 0
unfoldable pub p : ℕ → ℕ
p nn = 0x01010000 ⊕ (kk << 8) ⊕ nn

-- 2.6: the initialization vector
unfoldable pub IV : List ℕ
IV =
    0x6a09e667f3bcc908 ∷
    0xbb67ae8584caa73b ∷
    0x3c6ef372fe94f82b ∷
    0xa54ff53a5f1d36f1 ∷
    0x510e527fade682d1 ∷
    0x9b05688c2b3e6c1f ∷
    0x1f83d9abfb41bd6b ∷
    0x5be0cd19137e2179 ∷
    []

-- 2.7: the message word schedule; rounds 10 and 11 take rows 0 and 1 again
unfoldable pub SIGMA : List (List ℕ)
SIGMA =
    (0 ∷ 1 ∷ 2 ∷ 3 ∷ 4 ∷ 5 ∷ 6 ∷ 7 ∷ 8 ∷ 9 ∷ 10 ∷ 11 ∷ 12 ∷ 13 ∷ 14 ∷ 15 ∷ []) ∷
    (14 ∷ 10 ∷ 4 ∷ 8 ∷ 9 ∷ 15 ∷ 13 ∷ 6 ∷ 1 ∷ 12 ∷ 0 ∷ 2 ∷ 11 ∷ 7 ∷ 5 ∷ 3 ∷ []) ∷
    (11 ∷ 8 ∷ 12 ∷ 0 ∷ 5 ∷ 2 ∷ 15 ∷ 13 ∷ 10 ∷ 14 ∷ 3 ∷ 6 ∷ 7 ∷ 1 ∷ 9 ∷ 4 ∷ []) ∷
    (7 ∷ 9 ∷ 3 ∷ 1 ∷ 13 ∷ 12 ∷ 11 ∷ 14 ∷ 2 ∷ 6 ∷ 5 ∷ 10 ∷ 4 ∷ 0 ∷ 15 ∷ 8 ∷ []) ∷
    (9 ∷ 0 ∷ 5 ∷ 7 ∷ 2 ∷ 4 ∷ 10 ∷ 15 ∷ 14 ∷ 1 ∷ 11 ∷ 12 ∷ 6 ∷ 8 ∷ 3 ∷ 13 ∷ []) ∷
    (2 ∷ 12 ∷ 6 ∷ 10 ∷ 0 ∷ 11 ∷ 8 ∷ 3 ∷ 4 ∷ 13 ∷ 7 ∷ 5 ∷ 15 ∷ 14 ∷ 1 ∷ 9 ∷ []) ∷
    (12 ∷ 5 ∷ 1 ∷ 15 ∷ 14 ∷ 13 ∷ 4 ∷ 10 ∷ 0 ∷ 7 ∷ 6 ∷ 3 ∷ 9 ∷ 2 ∷ 8 ∷ 11 ∷ []) ∷
    (13 ∷ 11 ∷ 7 ∷ 14 ∷ 12 ∷ 1 ∷ 3 ∷ 9 ∷ 5 ∷ 0 ∷ 15 ∷ 4 ∷ 8 ∷ 6 ∷ 2 ∷ 10 ∷ []) ∷
    (6 ∷ 15 ∷ 14 ∷ 9 ∷ 11 ∷ 3 ∷ 0 ∷ 8 ∷ 12 ∷ 2 ∷ 13 ∷ 7 ∷ 1 ∷ 4 ∷ 10 ∷ 5 ∷ []) ∷
    (10 ∷ 2 ∷ 8 ∷ 4 ∷ 7 ∷ 6 ∷ 1 ∷ 5 ∷ 15 ∷ 11 ∷ 9 ∷ 14 ∷ 3 ∷ 12 ∷ 13 ∷ 0 ∷ []) ∷
    []

-- 3.1: the mixing function G
unfoldable pub G : List ℕ → ℕ → ℕ → ℕ → ℕ → ℕ → ℕ → List ℕ
G v a b c d x y =
    let v : List ℕ = set v a ((v ! a + v ! b + x) % 2 ^ w) in
    let v : List ℕ = set v d ((v ! d ⊕ v ! a) >>> R1) in
    let v : List ℕ = set v c ((v ! c + v ! d) % 2 ^ w) in
    let v : List ℕ = set v b ((v ! b ⊕ v ! c) >>> R2) in
    let v : List ℕ = set v a ((v ! a + v ! b + y) % 2 ^ w) in
    let v : List ℕ = set v d ((v ! d ⊕ v ! a) >>> R3) in
    let v : List ℕ = set v c ((v ! c + v ! d) % 2 ^ w) in
    set v b ((v ! b ⊕ v ! c) >>> R4)

-- 3.2: round i of F
unfoldable pub round : List ℕ → ℕ → List ℕ → List ℕ
round m i v =
    let s : List ℕ = get_or SIGMA (i % 10) [] in
    let v : List ℕ = G v 0 4 8 12 (m ! (s ! 0)) (m ! (s ! 1)) in
    let v : List ℕ = G v 1 5 9 13 (m ! (s ! 2)) (m ! (s ! 3)) in
    let v : List ℕ = G v 2 6 10 14 (m ! (s ! 4)) (m ! (s ! 5)) in
    let v : List ℕ = G v 3 7 11 15 (m ! (s ! 6)) (m ! (s ! 7)) in
    let v : List ℕ = G v 0 5 10 15 (m ! (s ! 8)) (m ! (s ! 9)) in
    let v : List ℕ = G v 1 6 11 12 (m ! (s ! 10)) (m ! (s ! 11)) in
    let v : List ℕ = G v 2 7 8 13 (m ! (s ! 12)) (m ! (s ! 13)) in
    G v 3 4 9 14 (m ! (s ! 14)) (m ! (s ! 15))

-- 3.2: the last block flag inverts all bits of v[14]
unfoldable pub flagged : Bool → List ℕ → List ℕ
flagged true v = set v 14 (v ! 14 ⊕ (2 ^ w - 1))
flagged false v = v

-- 3.2: the compression function F
unfoldable pub F : List ℕ → List ℕ → ℕ → Bool → List ℕ
F h m t f =
    let v : List ℕ = h ++ IV in
    let v : List ℕ = set v 12 (v ! 12 ⊕ t % 2 ^ w) in
    let v : List ℕ = set v 13 (v ! 13 ⊕ (t >> w)) in
    let v : List ℕ = flagged f v in
    let v : List ℕ = for r (round m) v in
    for 8 (λ i h. set h i (h ! i ⊕ v ! i ⊕ v ! (i + 8))) h

-- 3.3: the number of blocks of ll bytes, rounded up; an empty input is one block
unfoldable pub dd : ℕ → ℕ
dd ll = max 1 ((ll + bb - 1) / bb)

-- 3.3: d[i], the sixteen words of block i of the input, with zero bytes after the input's end
unfoldable pub d : List ℕ → ℕ → List ℕ
d input i = words 16 (drop (i * bb) input ++ replicate bb 0)

-- 3.3: h[0..7] := IV[0..7], h[0] := h[0] ^ p[0], for nn bytes of output
unfoldable pub h0 : ℕ → List ℕ
h0 nn = set IV 0 (IV ! 0 ⊕ p nn)

-- 3.3: BLAKE2b of the input, with nn bytes of output and no key
unfoldable pub blake2b : ℕ → List ℕ → List ℕ
blake2b nn input =
    let ll : ℕ = length input in
    let h : List ℕ = for (dd ll - 1) (λ i h. F h (d input i) ((i + 1) * bb) false) (h0 nn) in
    let h : List ℕ = F h (d input (dd ll - 1)) ll true in
    take nn (unwords h)

-- with 32 bytes of output
abbrev pub blake2b256 : List ℕ → List ℕ
blake2b256 input = blake2b 32 input

-- the check of a frame is its first four bytes (document 01, Frames)
abbrev pub check : List ℕ → List ℕ
check body = take 4 (blake2b256 body)
