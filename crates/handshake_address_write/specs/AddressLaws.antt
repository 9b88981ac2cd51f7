-- How many bytes an address has.
use Rattle.std.specs.Prelude.{ℕ, ◌+◌, ◌++◌, ◌≡◌, length}
use Rattle.std.proofs.Common.{arith, length-append}
use Rattle.wire.specs.Bytes.{big_endian_bytes}
use Rattle.wire.proofs.BytesLaws.{length-big_endian_bytes}
use Rattle.vlq.specs.Vlq.{vlq_bytes}
use Rattle.types.specs.declared.Address.TheVariants.{V4, V6}
use Rattle.handshake.specs.Value.{address_bytes}

pub length-v4 : (ip port : ℕ) → length (address_bytes (V4 ip port)) ≡ 6 + length (vlq_bytes port)
unfolding address_bytes
length-v4 ip port = omega (arith, length-append (big_endian_bytes 4 ip) (vlq_bytes port), length-big_endian_bytes 4 ip)

pub length-v6 : (high low port : ℕ) → length (address_bytes (V6 high low port)) ≡ 18 + length (vlq_bytes port)
unfolding address_bytes
length-v6 high low port =
    omega (
      arith,
      length-append (big_endian_bytes 8 high) (big_endian_bytes 8 low ++ vlq_bytes port),
      length-append (big_endian_bytes 8 low) (vlq_bytes port),
      length-big_endian_bytes 8 high,
      length-big_endian_bytes 8 low,
    )
