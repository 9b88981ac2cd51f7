-- `export_arrays::steps::message_array` meets its contract: the numbers of the message are those of its body.
use Rattle.export_arrays.proofs.StepsLaws.{own-numbers}
use Rattle.export_arrays.proofs.steps.message_array.Goals as goal

pub returns : goal.returns
returns c = rw c.message_numbers-numbers.ensures (own-numbers c.args.i c.args.i.message)
