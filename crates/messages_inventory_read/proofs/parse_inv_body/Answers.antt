-- `messages_inventory_read::parse_inv_body` meets its contract: n ids are read where 32 * n bytes are there.
use native.Mathlib.Omega.{arith}
use mathlib.Core.Path.{sym}
use Rattle.wire.specs.Reader.{part}
use Rattle.messages_inventory_read.proofs.PartsLaws.{header-ends, header_counts, ids-there, ids_missing}
use Rattle.messages_inventory_read.proofs.ItemsLaws.{items-got, items_refused}
use Rattle.messages_inventory_read.proofs.parse_inv_body.Goals as goal

pub overflow_mul-size : goal.overflow_mul-size
overflow_mul-size c = omega (arith, header_counts c.args.body.now (sym c.in_ok-ids.ensures))

pub overflow_sub-body : goal.overflow_sub-body
overflow_sub-body c = header-ends c.args.body.now (sym c.in_ok-ids.ensures)

pub returns-then-body-start : goal.returns-then-body-start
returns-then-body-start c =
    let q = sym c.in_ok-ids.ensures in
    items_refused (λ before. part 32) c.args.body.now q
    (ids_missing c.in_ok-ids.ids.count c.args.body.now c.in_ok-ids.ids.start.0 (header-ends c.args.body.now q) (omega (arith, header-ends c.args.body.now q)))

pub returns : goal.returns
returns c =
    let q = sym c.in_ok-ids.ensures in
    items-got (λ before. part 32) c.args.body.now q
    (ids-there c.in_ok-ids.ids.count c.args.body.now c.in_ok-ids.ids.start.0 (omega (arith, header-ends c.args.body.now q))).1
