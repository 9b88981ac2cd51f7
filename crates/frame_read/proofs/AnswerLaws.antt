-- What the readers of a frame and of its body answer, from tests on numbers and bytes.
use Prim.Native.Nat.{ℕ, zero, suc, ◌+◌, ◌-◌, ◌≤◌, ◌<◌}
use native.Mathlib.Omega.{arith}
use mathlib.Core.Bool.{Bool, true, false, cond}
use mathlib.Core.List.{List}
use mathlib.Core.Path.{◌≡◌, refl}
use lib.ListN.{length, get_or, take, drop}
use borrow.Author.Tests.{le-leb, lt-leb}
use Rattle.wire.specs.Bytes.{big_endian, same_bytes}
use Rattle.wire.specs.Reader.{got, refused, bind, map_answer}
use Rattle.wire.proofs.ReaderLaws.{field-got, field_missing, field-outside, length_part, map-got, map-refused}
use Rattle.std.proofs.lemmas.Result.{err_from_is_err_and}
use Rattle.wire_numbers.specs.PartLaws.{number-part}
use Rattle.vlq.specs.Vlq.{limit}
use Rattle.blake2b.specs.Blake2b.{check}
use Rattle.types.specs.declared.Network.{Network}
use Rattle.types.specs.Magic.{magic_of}
use Rattle.frame.specs.Frame.{Header, header, Checked, checked, body, frame}
use Rattle.frame_read.specs.declared.StreamPart.{StreamPart}
use Rattle.frame_read.specs.Answers.{stream_part_of, frame_of}

-- ---- the header

abbrev header_at : List ℕ → ℕ → Header
header_at s at = record { magic = take 4 (drop at s); code = get_or s (at + 4) 0; body_length = big_endian (take 4 (drop (at + 5) s)) }

module _ (s : List ℕ) (at : ℕ) where
  header-got : at + 9 ≤ length s → header s at ≡ got (header_at s at) (at + 9)
  unfolding header
  header-got h = field-got 5 9 header_at s at h

  header-short : at ≤ length s → length s < at + 9 → header s at ≡ refused 5
  unfolding header
  header-short h g = field_missing 5 9 header_at s at h g

  header-outside : length s < at → header s at ≡ refused 12
  unfolding header
  header-outside h = field-outside 5 9 header_at s at h

-- ---- a frame

module _ (network : Network) (s : List ℕ) (at : ℕ) where
  pub frame-outside : length s < at → map_answer frame_of (frame network s at) ≡ refused 12
  unfolding frame map_answer
  frame-outside h = rw (header-outside s at h)

  pub frame-short : at ≤ length s → length s < at + 9 → map_answer frame_of (frame network s at) ≡ refused 5
  unfolding frame map_answer
  frame-short h g = rw (header-short s at h g)

  -- the magic is another
  pub frame-other : at + 9 ≤ length s → same_bytes (take 4 (drop at s)) (magic_of network) ≡ false → map_answer frame_of (frame network s at) ≡ refused 6
  unfolding frame map_answer
  frame-other h m = rw (header-got s at h, m)

  module _ (n : ℕ) (inside : at + 9 ≤ length s) (magic : same_bytes (take 4 (drop at s)) (magic_of network) ≡ true) (size : n ≡ big_endian (take 4 (drop (at + 5) s))) where
    pub frame_long : limit < n → map_answer frame_of (frame network s at) ≡ refused 7
    unfolding frame map_answer
    frame_long h = rw (header-got s at inside, magic, ← size, lt-leb n limit h)

    frame-body : n ≤ limit → frame network s at ≡ bind (body n s (at + 9)) (λ b e. got (record { code = get_or s (at + 4) 0; body = b }) e)
    unfolding frame
    frame-body h = rw (header-got s at inside, magic, ← size, le-leb n limit h)

    pub frame-got : n ≤ limit → (p : StreamPart) (e : ℕ) → map_answer stream_part_of (body n s (at + 9)) ≡ got p e
        → map_answer frame_of (frame network s at) ≡ got (record { code = get_or s (at + 4) 0; body = p }) e
    unfolding map_answer
    frame-got h p e q = let b = map-got stream_part_of {r = body n s (at + 9)} q in rw (frame-body h, b.1, b.2)

    pub frame_refused : n ≤ limit → (m : ℕ) → map_answer stream_part_of (body n s (at + 9)) ≡ refused m → map_answer frame_of (frame network s at) ≡ refused m
    unfolding map_answer
    frame_refused h m q = rw (frame-body h, map-refused stream_part_of {r = body n s (at + 9)} q)

-- ---- a body

pub body-empty : (s : List ℕ) (at n : ℕ) → n ≡ 0 → map_answer stream_part_of (body n s at) ≡ got (record { start = record { 0 = at }; len = n }) at
unfolding body map_answer
body-empty s at zero h = refl
body-empty s at (suc n) h = absurd (omega arith)

module _ (s : List ℕ) (at : ℕ) where
  pub body_missing : (n : ℕ) → 0 < n → at ≤ length s → length s < at + (4 + n) → map_answer stream_part_of (body n s at) ≡ refused 8
  unfolding body map_answer checked
  body_missing zero p h g = absurd (omega arith)
  body_missing (suc n) p h g = rw (field_missing {A = Checked} 8 (4 + suc n) _ s at h g)

  -- the code's body ends at at + 4 + n, so its length is written at + 4 + n - (at + 4)
  pub body-got : (n : ℕ) (b : Bool) → 0 < n → at + (4 + n) ≤ length s → same_bytes (take 4 (drop at s)) (check (take (at + 4 + n - (at + 4)) (drop (at + 4) s))) ≡ b
      → map_answer stream_part_of (body n s at) ≡ cond b (got (record { start = record { 0 = at + 4 }; len = n }) (at + 4 + n)) (refused 9)
  unfolding body map_answer checked
  body-got zero b p h m = absurd (omega arith)
  body-got (suc n) true p h m =
      let z : at + 4 + suc n - (at + 4) ≡ suc n = omega arith in
      let e : at + (4 + suc n) ≡ at + 4 + suc n = omega arith in
      rw (field-got {A = Checked} 8 (4 + suc n) _ s at h, rw z at m, length_part (suc n) s (at + 4) (omega arith), e)
  body-got (suc n) false p h m =
      let z : at + 4 + suc n - (at + 4) ≡ suc n = omega arith in
      rw (field-got {A = Checked} 8 (4 + suc n) _ s at h, rw z at m)

pub ruleset frame_answers = (frame-outside, frame-short, frame-other, frame_long, frame-got, frame_refused, number-part, err_from_is_err_and)

pub ruleset body_answers = (body-empty, body_missing, body-got)
