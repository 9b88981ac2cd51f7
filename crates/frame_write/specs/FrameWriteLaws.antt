-- Laws of a frame written around its body: where the body stands already, storing the frame changes only what is before
-- it.
use Prim.Native.Nat.{ℕ, zero, suc, ◌+◌, ◌≤◌, ◌<◌}
use Rattle.std.proofs.Common.{Result, Ok, Err, arith, sym, ◌∙◌}
use Rattle.std.specs.Result.{IsOk}
use mathlib.Core.List.{List, [], ◌∷◌, ◌++◌, append_assoc, append-nil}
use Rattle.std.specs.Prelude.{◌≡◌, refl, take, drop}
use Rattle.std.proofs.Math.Path.{ap}
use Rattle.std.proofs.Math.ListN.{length, length-append}
use borrow.Author.Tests.{le-leb, leb-true}
use Rattle.wire.specs.Bytes.{big_endian_bytes}
use Rattle.wire.proofs.BytesLaws.{length-big_endian_bytes}
use Rattle.wire.specs.declared.Refusal.{Refusal}
use Rattle.wire.specs.Output.{Written, To, written_said, put, asked, written, output_after, Wrote}
use Rattle.wire.proofs.OutputLaws.{put-here, wrote_then, wrote_length, wrote_checked, asked-to}
use Rattle.wire.proofs.StandingLaws.{put_standing, put-over, after_none}
use Rattle.wire.proofs.ReaderLaws.{length_part}
use Rattle.vlq.specs.Vlq.{limit}
use Rattle.blake2b.specs.Blake2b.{check}
use Rattle.blake2b.proofs.CheckLaws.{length-check}
use Rattle.types.specs.declared.Network.{Network}
use Rattle.types.specs.Magic.{magic_of}
use Rattle.types.proofs.MagicLaws.{length-magic}
use Rattle.frame.specs.Frame.{checked_bytes, frame_bytes}
use Rattle.frame.proofs.FrameLaws.{body_start, length-frame_bytes}
use Rattle.frame.specs.Writes.{frame_written}
use Rattle.frame_write.specs.Asked.{frame_length, frame_written_for}

-- magic, code and body length
unfoldable pub header_bytes : Network → ℕ → ℕ → List ℕ
header_bytes network code n = magic_of network ++ (code ∷ big_endian_bytes 4 n)

-- ---- lengths

pub length-head : (network : Network) (code n : ℕ) → length (header_bytes network code n) ≡ 9
unfolding header_bytes
length-head network code n = omega (arith, length-append (magic_of network) (code ∷ big_endian_bytes 4 n), length-magic network, length-big_endian_bytes 4 n)

pub length-frame : (network : Network) (code : ℕ) (body : List ℕ) → length (frame_bytes network code body) ≡ frame_length (length body)
unfolding frame_length body_start
length-frame network code [] = length-frame_bytes network code []
length-frame network code (b ∷ bs) = length-frame_bytes network code (b ∷ bs)

pub frame_length-least : (n : ℕ) → 9 ≤ frame_length n
unfolding frame_length
frame_length-least zero = omega arith
frame_length-least (suc n) = omega arith

pub frame_length-body : (n : ℕ) → 0 < n → frame_length n ≡ 13 + n
unfolding frame_length
frame_length-body zero h = absurd (omega arith)
frame_length-body (suc n) h = refl

pub frame_length_empty : (n : ℕ) → n ≤ 0 → frame_length n ≡ 9
unfolding frame_length
frame_length_empty zero h = refl
frame_length_empty (suc n) h = absurd (omega arith)

pub ruleset frame_lengths = (length-head, frame_length-least, frame_length-body, frame_length_empty)

-- a frame whose body has bytes: all before the body, and then the body
frame_parts : (network : Network) (code : ℕ) (body : List ℕ) → 0 < length body
    → frame_bytes network code body ≡ (header_bytes network code (length body) ++ check body) ++ body
unfolding frame_bytes checked_bytes header_bytes
frame_parts network code [] h = absurd (omega arith)
frame_parts network code (b ∷ bs) h =
    let body : List ℕ = b ∷ bs in
    sym (append_assoc (magic_of network) (code ∷ big_endian_bytes 4 (length body)) (check body ++ body))
    ∙ sym (append_assoc (magic_of network ++ (code ∷ big_endian_bytes 4 (length body))) (check body) body)

length_before : (network : Network) (code n : ℕ) (body : List ℕ) → length (header_bytes network code n ++ check body) ≡ 13
length_before network code n body = omega (arith, length-append (header_bytes network code n) (check body), length-head network code n, length-check body)

-- an empty body has no check
frame-empty : (network : Network) (code : ℕ) → frame_bytes network code [] ≡ header_bytes network code 0
unfolding frame_bytes checked_bytes header_bytes
frame-empty network code = ap (λ (l : List ℕ). magic_of network ++ (code ∷ l)) (append-nil (big_endian_bytes 4 0))

-- ---- a frame around a body that stands there

-- all before the body was stored, and the body stands there
pub wrote_before : (network : Network) (code : ℕ) (out : List ℕ) (at n : ℕ) {e f : ℕ} {four mid last : List ℕ} → 0 < n → at + frame_length n ≤ length out
    → four ≡ check (take n (drop (at + 13) out)) → Wrote out at (header_bytes network code n) e mid → Wrote mid e four f last
    → Wrote out at (frame_bytes network code (take n (drop (at + 13) out))) (f + n) last
wrote_before network code out at n {e} {f} {four} {mid} {last} some room c v w =
    let body : List ℕ = take n (drop (at + 13) out) in
    let h : at + 13 + n ≤ length out = omega (arith, frame_length-body n some) in
    let l : length body ≡ n = length_part n out (at + 13) h in
    let four-long : length four ≡ 4 = ap length c ∙ length-check body in
    let x : Wrote out at (header_bytes network code n ++ four) f last = wrote_then v w in
    let size : length (header_bytes network code n ++ four) ≡ 13 = omega (arith, length-append (header_bytes network code n) four, length-head network code n) in
    let parts : frame_bytes network code body ≡ (header_bytes network code n ++ four) ++ body =
    frame_parts network code body (omega arith) ∙ ap (λ (k : ℕ). (header_bytes network code k ++ check body) ++ body) l
    ∙ ap (λ (y : List ℕ). (header_bytes network code n ++ y) ++ body) (sym c) in
    record {
      end = omega (arith, x.end, length-frame network code body, frame_length-body n some, ap frame_length l);
      bytes = x.bytes ∙ sym (put_standing out at (header_bytes network code n ++ four) (at + 13) n (omega arith) h) ∙ ap (put out at) (sym parts);
    }

-- the head alone is the frame of an empty body
pub wrote_empty : (network : Network) (code : ℕ) (out : List ℕ) (at n : ℕ) {e : ℕ} {last : List ℕ} → n ≡ 0 → Wrote out at (header_bytes network code n) e last
    → Wrote out at (frame_bytes network code (take n (drop (at + 13) out))) e last
wrote_empty network code out at n {e} {last} z w =
    rw z (rw (frame-empty network code) (rw z at w))

-- where there is room, a frame is closed
closed-to : (len at n : ℕ) → n ≤ limit → at + frame_length n ≤ len → frame_written_for len at n ≡ To (at + frame_length n)
unfolding frame_written_for asked
closed-to len at n small room = rw (le-leb at len (omega arith), le-leb n limit small, le-leb (at + frame_length n) len room)

pub closed-ok : (len at n : ℕ) (r : Result ℕ Refusal) → written_said r ≡ frame_written_for len at n → n ≤ limit → at + frame_length n ≤ len → IsOk r
closed-ok len at n (Ok e) says small room = refl
closed-ok len at n (Err m) says small room =
    let q : written_said (Err m) ≡ To (at + frame_length n) = says ∙ closed-to len at n small room in
    let z : ◌≡◌ {A = ℕ} 0 1 = cc in
    absurd (omega arith)

-- the body was stored where it stands in the frame
module _ (network : Network) (code : ℕ) (out : List ℕ) (at : ℕ) (body : List ℕ) {e : ℕ} {mid : List ℕ} (room : at + frame_length (length body) ≤ length out)
    (v : Wrote out (at + 13) body e mid)
  where
    stands : take (length body) (drop (at + 13) mid) ≡ body
    stands = go body room v.bytes
      where
        go : (body : List ℕ) → at + frame_length (length body) ≤ length out → mid ≡ put out (at + 13) body → take (length body) (drop (at + 13) mid) ≡ body
        go [] h p = refl
        go (b ∷ bs) h p =
            ap (λ (o : List ℕ). take (length (b ∷ bs)) (drop (at + 13) o)) p
            ∙ put-here out (at + 13) (b ∷ bs) (omega (arith, frame_length-body (length (b ∷ bs)) (omega arith)))

    around : {last : List ℕ} → last ≡ put mid at (frame_bytes network code body) → last ≡ put out at (frame_bytes network code body)
    unfolding put
    around {last} q = go body room v.bytes q
      where
        go : (body : List ℕ) → at + frame_length (length body) ≤ length out → mid ≡ put out (at + 13) body → last ≡ put mid at (frame_bytes network code body)
            → last ≡ put out at (frame_bytes network code body)
        go [] h p q = rw p at q
        go (b ∷ bs) h p q =
            let body : List ℕ = b ∷ bs in
            let before : List ℕ = header_bytes network code (length body) ++ check body in
            let parts : frame_bytes network code body ≡ before ++ body = frame_parts network code body (omega arith) in
            let size : length (before ++ body) ≡ 13 + length body =
            omega (arith, length_before network code (length body) body, length-append before body) in
            q ∙ ap (λ (o : List ℕ). put o at (frame_bytes network code body)) p ∙ ap (put (put out (at + 13) body) at) parts
            ∙ put-over out at (before ++ body) body (at + 13) (omega arith) (omega (arith, size))
            (omega (arith, size, frame_length-body (length body) (omega arith)))
            ∙ ap (put out at) (sym parts)

    -- and then the frame around it
    pub wrote_around : {f : ℕ} {last : List ℕ} → Wrote mid at (frame_bytes network code (take (length body) (drop (at + 13) mid))) f last
        → Wrote out at (frame_bytes network code body) f last
    wrote_around w = let x = rw stands at w in record { end = x.end; bytes = around x.bytes }

    -- as the writer of the frame says
    pub closed : {r : Written} {last : List ℕ} → length body ≤ limit → r ≡ frame_written_for (length mid) at (length body)
        → last ≡ output_after r mid at (frame_bytes network code (take (length body) (drop (at + 13) mid))) → last ≡ put out at (frame_bytes network code body)
    unfolding output_after
    closed {r} {last} small says left =
        let p : r ≡ To (at + frame_length (length body)) = says ∙ closed-to (length mid) at (length body) small (omega (arith, wrote_length v)) in
        around (rw (p, stands) at left)

-- ---- what the calls say

-- a body that has room in its frame was stored there
pub wrote_body : (out : List ℕ) (at : ℕ) (body : List ℕ) {r : Written} {mid : List ℕ} → at + frame_length (length body) ≤ length out
    → r ≡ written [] [] out (at + 13) body → mid ≡ output_after r out (at + 13) body → Wrote out (at + 13) body (at + 13 + length body) mid
wrote_body out at [] {r} {mid} room says left = record { end = refl; bytes = left ∙ after_none r out (at + 13) }
wrote_body out at (b ∷ bs) room says left =
    wrote_checked [] [] out (at + 13) (b ∷ bs) says left tt tt (omega (arith, frame_length-body (length (b ∷ bs)) (omega arith)))

-- what the writer of a frame says is what is said by sizes
pub said-frame : (network : Network) (code : ℕ) (body out : List ℕ) (at : ℕ) → frame_written network code body out at ≡ frame_written_for (length out) at (length body)
unfolding frame_written_for frame_written written
said-frame network code body out at = rw (length-frame network code body)

-- a writer of a frame accepted: its body is within the limit, and the frame has room
pub asked-frame : (len at n : ℕ) {e : ℕ} → To e ≡ frame_written_for len at n → (n ≤ limit) × (at + frame_length n ≤ len)
unfolding frame_written_for
asked-frame len at n {e} says =
    let h = (asked-to _ (To (at + frame_length n)) e (sym says)).0 in
    (leb-true n limit h.1.0, leb-true (at + frame_length n) len h.1.1.0)

pub ruleset frame_asked = (said-frame, asked-frame)
