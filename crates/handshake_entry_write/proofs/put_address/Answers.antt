-- `handshake_entry_write::put_address` meets its contract: flag 0, or flag 1, L, the address's bytes as they stand in the buffer and the port.
use Prim.Native.Nat.{◌-◌}
use native.Mathlib.Omega.{arith}
use mathlib.Core.Path.{ap}
use lib.ListN.{length, length-set}
use Rattle.wire.proofs.OutputLaws.{wrote_then, wrote_byte, wrote_length, wrote_two}
use Rattle.wire_output.proofs.RoomLaws.{room-ok, wrote-ok}
use Rattle.handshake.specs.Tables.{bytes_at}
use Rattle.handshake_entry_write.specs.NumbersLaws.{address-zero, address-some, length_some, kind-byte}
use Rattle.handshake_entry_write.proofs.put_address.Goals as goal

pub bounds-out-at : goal.bounds-out-at
bounds-out-at c = omega (arith, ap length (address-zero c.args.e.addrlen (bytes_at c.args.t.buffer.now c.args.e.addrat (c.args.e.addrlen - 4)) c.args.e.port c.if-e-eq0.true))

pub returns-then-e-eq0 : goal.returns-then-e-eq0
returns-then-e-eq0 c = rw (address-zero c.args.e.addrlen (bytes_at c.args.t.buffer.now c.args.e.addrat (c.args.e.addrlen - 4)) c.args.e.port c.if-e-eq0.true) (wrote_byte c.args.out.now c.args.at 0)

pub bounds-out-at-2 : goal.bounds-out-at-2
bounds-out-at-2 c =
    omega (arith, length_some c.args.t.buffer.now c.args.e c.args.t.bytes c.requires.e_value.0 c.requires.e_value.1 c.if-e-eq0.false)

pub overflow_cast-out : goal.overflow_cast-out
overflow_cast-out c =
    omega (arith, kind-byte c.args.t.buffer.now c.args.e c.args.t.bytes c.requires.e_value.0 c.requires.e_value.1 c.if-e-eq0.false)

pub bounds-out-at-3 : goal.bounds-out-at-3
bounds-out-at-3 c =
    simp length-set (omega (arith, length_some c.args.t.buffer.now c.args.e c.args.t.bytes c.requires.e_value.0 c.requires.e_value.1 c.if-e-eq0.false))

pub unwrap-a-requires : goal.unwrap-a-requires
unwrap-a-requires c =
    room-ok _ _ _ _ c.write_part.ensures.value
    (rw (c.bytes_at-bytes.ensures, c.address_size.ensures) (simp length-set (omega (arith, length_some c.args.t.buffer.now c.args.e c.args.t.bytes c.requires.e_value.0 c.requires.e_value.1 c.if-e-eq0.false))))

pub put_vlq-requires : goal.put_vlq-requires
put_vlq-requires c =
    let w = rw (c.bytes_at-bytes.ensures, c.address_size.ensures) at (wrote-ok _ _ _ _ c.write_part.ensures.value c.write_part.ensures.out_after c.unwrap-a.ensures) in
    omega (arith, w.end, simp length-set at (wrote_length w), length_some c.args.t.buffer.now c.args.e c.args.t.bytes c.requires.e_value.0 c.requires.e_value.1 c.if-e-eq0.false)

pub returns : goal.returns
returns c =
    let w = rw (c.bytes_at-bytes.ensures, c.address_size.ensures) at (wrote-ok _ _ _ _ c.write_part.ensures.value c.write_part.ensures.out_after c.unwrap-a.ensures) in
    rw (address-some c.args.t.buffer.now c.args.e c.args.t.bytes c.requires.e_value.0 c.requires.e_value.1 c.if-e-eq0.false)
    (wrote_then (wrote_two c.args.out.now c.args.at 1 c.args.e.addrlen) (wrote_then w c.put_vlq.ensures))
