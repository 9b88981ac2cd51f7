-- Frames (document 01, "Frames"): how one is read, question by question, and the bytes of one. Laws stand in `FrameLaws`.
use Rattle.std.specs.Prelude.{ℕ, zero, suc, ◌+◌, List, [], ◌∷◌, ◌++◌, leb, length, get_or, take, drop}
use Rattle.wire.specs.Bytes.{big_endian, big_endian_bytes, same_bytes}
use Rattle.wire.specs.Reader.{Reader, pure, and_then, place, guard, field, Segment}
use Rattle.vlq.specs.Vlq.{limit}
use Rattle.blake2b.specs.Blake2b.{check}
use Rattle.types.specs.declared.Network.{Network}
use Rattle.types.specs.Magic.{magic_of}

-- magic (4), code (1), body length (4, big-endian)
pub record Header : Type 0 where
  pub magic : List ℕ
  pub code : ℕ
  pub body_length : ℕ

-- Are there 9 bytes? 5
unfoldable pub header : Reader Header
header =
    field 5 9 (λ s at. record { magic = take 4 (drop at s); code = get_or s (at + 4) 0; body_length = big_endian (take 4 (drop (at + 5) s)) })

pub record BodyFrame : Type 0 where
  pub code : ℕ
  pub body : Segment

-- a check (4) and a body of n bytes
pub record Checked : Type 0 where
  pub check : List ℕ
  pub body : Segment

-- Are all its bytes there? 8
unfoldable pub checked : ℕ → Reader Checked
checked n =
    field 8 (4 + n) (λ s at. record { check = take 4 (drop at s); body = record { start = at + 4; bytes = take n (drop (at + 4) s) } })

-- the body, if its length isn't 0: a check and the body
-- Does the check match? 9
unfoldable pub body : ℕ → Reader Segment
body zero = and_then place (λ at. pure (record { start = at; bytes = [] }))
body (suc n) = and_then (checked (suc n)) (λ c. guard (same_bytes c.check (check c.body.bytes)) 9 c.body)

-- Is the magic ours? 6. Is the body length at most the limit? 7
unfoldable pub frame : Network → Reader BodyFrame
frame network =
    and_then header (λ h.
    and_then (guard (same_bytes h.magic (magic_of network)) 6 h) (λ h.
    and_then (guard (leb h.body_length limit) 7 h) (λ h.
    and_then (body h.body_length) (λ body.
    pure (record { code = h.code; body = body })))))

-- ---- the bytes of a frame

-- a check and the body, unless the body is empty
unfoldable pub checked_bytes : List ℕ → List ℕ
checked_bytes [] = []
checked_bytes (b ∷ bs) = check (b ∷ bs) ++ (b ∷ bs)

unfoldable pub frame_bytes : Network → ℕ → List ℕ → List ℕ
frame_bytes network code body = magic_of network ++ (code ∷ (big_endian_bytes 4 (length body) ++ checked_bytes body))
