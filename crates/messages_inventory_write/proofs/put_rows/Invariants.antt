-- `messages_inventory_write::put_rows` meets its contract: the ids before this one were stored.
use Rattle.messages_inventory_write.proofs.IdsLoop.{PuttingIds}
use Rattle.messages_inventory_write.proofs.put_rows.Given as goal

abbrev pub invariant-loop-id : goal.invariant-loop-id
invariant-loop-id l = PuttingIds l.initial.out l.at l.ids l.buffer l.out l.end l.id-index
