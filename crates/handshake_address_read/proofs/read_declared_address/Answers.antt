-- `handshake_address_read::read_declared_address` meets its contract: the definition, rewritten with the flag that was read.
use mathlib.Core.Path.{sym}
use borrow.Author.Tests.{eq-eqb, ne_eqb}
use Rattle.std.proofs.lemmas.Result.{err_from_is_err_and}
use Rattle.handshake.specs.Entry.{address_if}
use Rattle.handshake_address_read.specs.DeclaredAddress.{declared_address}
use Rattle.handshake_address_read.proofs.read_declared_address.Goals as goal

pub returns-then-flag-eq0 : goal.returns-then-flag-eq0
unfolding declared_address address_if
returns-then-flag-eq0 c = rw (sym c.in_ok-flag.ensures, eq-eqb _ _ c.if-flag-eq0.true)

pub returns : goal.returns
unfolding declared_address address_if
returns c = rw (sym c.in_ok-flag.ensures, ne_eqb _ _ c.if-flag-eq0.false) c.read_address.ensures

pub returns-in_err-flag : goal.returns-in_err-flag
unfolding declared_address
returns-in_err-flag c =
    let p = err_from_is_err_and c.from_residual.result c.from_residual.ensures.1 in
    rw (p.1, p.2, sym c.in_err-flag.ensures)
