-- `messages_inventory_write::ids_inside` meets its contract: the ids before this one are inside the buffer.
use Prim.Native.Nat.{◌+◌}
use native.Mathlib.Omega.{arith}
use lib.ListN.{get_or}
use borrow.Author.Tests.{le-leb, lt-leb}
use Rattle.handshake.proofs.RowsLaws.{passed_start, passed-next, passed-not, passed-end}
use Rattle.messages_inventory_write.proofs.ids_inside.Goals as goal

pub loop-at-init : goal.loop-at-init
loop-at-init c = passed_start _ _ _

pub returns-then-len-at : goal.returns-then-len-at
returns-then-len-at c = passed-not c.loop-at.invariant (omega arith) (lt-leb (get_or c.args.ids.now c.loop-at.at-index 0 + 32) c.args.len c.if-len-at.true)

pub loop-at-preserved : goal.loop-at-preserved
loop-at-preserved c = passed-next c.loop-at.invariant (omega arith) (le-leb (get_or c.args.ids.now c.loop-at.at-index 0 + 32) c.args.len c.if-len-at.false)

pub returns : goal.returns
returns c = passed-end c.loop-at.invariant (omega arith)
