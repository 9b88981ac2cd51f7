-- `messages_inventory_read::id_by_index` meets its contract: an id stands 32 bytes after the one before it.
use native.Mathlib.Omega.{arith}
use mathlib.Core.Path.{sym}
use Rattle.std.proofs.lemmas.Result.{err_from_is_err_and}
use Rattle.wire.specs.Reader.{part}
use Rattle.wire.proofs.ReaderLaws.{map-got, map-refused, map-refusal}
use Rattle.messages_inventory_read.specs.Parts.{id_at}
use Rattle.messages_inventory_read.specs.Answers.{inventory_in}
use Rattle.messages_inventory_read.proofs.ItemsLaws.{item_refused, item_past}
use Rattle.messages_inventory_read.proofs.AnswerLaws.{id-fits, id-got}
use Rattle.messages_inventory_read.proofs.id_by_index.Goals as goal

pub returns-then-ids-index : goal.returns-then-ids-index
unfolding id_at
returns-then-ids-index c =
    let q = map-got (inventory_in c.args.body.now) (sym c.in_ok-ids.ensures) in
    rw (item_past (λ before. part 32) c.args.index c.args.body.now q.1 q.2 c.if-ids-index.true, map-refusal)

pub overflow_mul-result : goal.overflow_mul-result
overflow_mul-result c =
    let q = map-got (inventory_in c.args.body.now) (sym c.in_ok-ids.ensures) in
    omega (arith, id-fits c.args.index c.args.body.now q.1 q.2)

pub overflow_add-result : goal.overflow_add-result
overflow_add-result c =
    let q = map-got (inventory_in c.args.body.now) (sym c.in_ok-ids.ensures) in
    omega (arith, id-fits c.args.index c.args.body.now q.1 q.2)

pub returns : goal.returns
returns c =
    let q = map-got (inventory_in c.args.body.now) (sym c.in_ok-ids.ensures) in
    id-got c.args.index c.args.body.now q.1 q.2 (omega arith)

pub returns-in_err-ids : goal.returns-in_err-ids
unfolding id_at
returns-in_err-ids c =
    let p = err_from_is_err_and c.from_residual.result c.from_residual.ensures.1 in
    let q = map-refused (inventory_in c.args.body.now) (sym c.in_err-ids.ensures) in
    rw (p.1, p.2, item_refused (λ before. part 32) c.args.index c.args.body.now q, map-refusal)
