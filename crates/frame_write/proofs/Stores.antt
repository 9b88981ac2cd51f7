-- What the three stores of a head put together.
use Prim.Native.Nat.{ℕ, ◌+◌}
use mathlib.Core.List.{List}
use mathlib.Core.Path.{◌≡◌}
use lib.ListN.{set}
use Rattle.wire.specs.Bytes.{big_endian_bytes}
use Rattle.wire.specs.Output.{Wrote}
use Rattle.wire.proofs.OutputLaws.{wrote_byte, wrote_then}
use Rattle.types.specs.declared.Network.{Network}
use Rattle.types.specs.Magic.{magic_of}
use Rattle.frame_write.specs.FrameWriteLaws.{header_bytes}

-- magic, code, body length
pub head_stored : (network : Network) (code : ℕ) (n : ℕ) {out mid last magic size : List ℕ} {at m e : ℕ} → magic ≡ magic_of network → size ≡ big_endian_bytes 4 n
    → Wrote out at magic m mid → Wrote (set mid m code) (m + 1) size e last → Wrote out at (header_bytes network code n) e last
unfolding header_bytes
head_stored network code n {mid = mid} {m = m} p q v w =
    wrote_then (rw p at v) (wrote_then (wrote_byte mid m code) (rw q at w))
