-- VLQs (document 01, "VLQ, zigzag, short strings"): how one is read, and the bytes of one. Laws stand in `VlqLaws`.
use Rattle.std.specs.Prelude.{ℕ, zero, suc, ◌+◌, ◌*◌, ◌/◌, ◌%◌, ◌^◌, true, false, cond, List, [], ◌∷◌, ltb, leb}
use Rattle.wire.specs.Reader.{Reader, pure, and_then, refuse, guard, byte}

-- groups of 7 bits, lowest first; bit 0x80 means another byte follows
-- Does it end within n bytes? 2
unfoldable pub groups : ℕ → Reader ℕ
groups zero = refuse 2
groups (suc n) = and_then byte (λ b. cond (ltb b 0x80) (pure b) (and_then (groups n) (λ rest. pure (b % 0x80 + 0x80 * rest))))

-- at most ten bytes; the value is the sum modulo 2^64
unfoldable pub vlq : Reader ℕ
vlq = and_then (groups 10) (λ sum. pure (sum % 2 ^ 64))

-- the most that a length or a count may be
abbrev pub limit : ℕ
limit = 16388608

-- a length or a count
-- Is it at most the limit? 3
unfoldable pub vlq_length : Reader ℕ
vlq_length = and_then vlq (λ v. guard (leb v limit) 3 v)

-- the shortest VLQ of v, of at most n + 1 bytes
unfoldable pub vlq_in : ℕ → ℕ → List ℕ
vlq_in zero v = v ∷ []
vlq_in (suc n) v = elim (ltb v 0x80) [ true ↦ v ∷ [] | false ↦ (v % 0x80 + 0x80) ∷ vlq_in n (v / 0x80) ]

-- the shortest VLQ of v
unfoldable pub vlq_bytes : ℕ → List ℕ
vlq_bytes v = vlq_in v v
