-- `handshake_address_read::read_address` meets its contract: the definition, rewritten with what each of its readers answered.
use mathlib.Core.Path.{sym}
use Rattle.std.proofs.lemmas.Result.{err_from_is_err_and}
use Rattle.wire.proofs.ReaderLaws.{map-got, map-refused}
use Rattle.wire.specs.Reader.{part_of}
use Rattle.handshake.specs.Entry.{address}
use Rattle.handshake_address_read.proofs.AddressLaws.{address_inside, address_read}
use Rattle.handshake_address_read.proofs.read_address.Goals as goal

pub address_of-requires : goal.address_of-requires
address_of-requires c =
    let e = map-got part_of (sym c.in_ok-bytes.ensures) in
    address_inside c.in_ok-l.l _ c.args.s.now _ c.minus_four.ensures e.1 e.2

pub returns : goal.returns
unfolding address
returns c =
    let e = map-got part_of (sym c.in_ok-bytes.ensures) in
    let a = address_read c.in_ok-l.l _ c.args.s.now _ c.minus_four.ensures e.1 e.2 _ c.address_of.ensures in
    rw (sym c.in_ok-l.ensures, ← c.minus_four.ensures, e.1, sym c.in_ok-port.ensures, a)

pub returns-in_err-port : goal.returns-in_err-port
unfolding address
returns-in_err-port c =
    let e = map-got part_of (sym c.in_ok-bytes.ensures) in
    let p = err_from_is_err_and c.from_residual-in_err-port.result c.from_residual-in_err-port.ensures.1 in
    rw (p.1, p.2, sym c.in_ok-l.ensures, ← c.minus_four.ensures, e.1, sym c.in_err-port.ensures)

pub returns-in_err-bytes : goal.returns-in_err-bytes
unfolding address
returns-in_err-bytes c =
    let e = map-refused part_of (sym c.in_err-bytes.ensures) in
    let p = err_from_is_err_and c.from_residual-in_err-bytes.result c.from_residual-in_err-bytes.ensures.1 in
    rw (p.1, p.2, sym c.in_ok-l.ensures, ← c.minus_four.ensures, e)

pub returns-in_err-l : goal.returns-in_err-l
unfolding address
returns-in_err-l c =
    let p = err_from_is_err_and c.from_residual.result c.from_residual.ensures.1 in
    rw (p.1, p.2, sym c.in_err-l.ensures)
