-- `report_text::field` meets its contract: the text was stored, then the number.
use Rattle.std.proofs.Common.{arith}
use Rattle.wire.proofs.OutputLaws.{wrote_then, wrote_length}
use Rattle.wire_output.proofs.RoomLaws.{room-ok, wrote-ok}
use Rattle.wire_text_write.specs.TextLaws.{length-decimal}
use Rattle.report_text.specs.Lines.{labelled_number}
use Rattle.report_text.proofs.field.Goals as goal

pub unwrap-next-requires : goal.unwrap-next-requires
unwrap-next-requires c = room-ok _ _ _ _ c.write_part.ensures.value (omega arith)

pub unwrap-requires : goal.unwrap-requires
unwrap-requires c =
    let text = wrote-ok _ _ _ _ c.write_part.ensures.value c.write_part.ensures.out_after c.unwrap-next.ensures in
    room-ok _ _ _ _ c.write_decimal.ensures.value (omega (arith, text.end, wrote_length text, length-decimal c.args.n))

pub returns-clause-wrote : goal.returns-clause-wrote
unfolding labelled_number
returns-clause-wrote c =
    let text = wrote-ok _ _ _ _ c.write_part.ensures.value c.write_part.ensures.out_after c.unwrap-next.ensures in
    let number = wrote-ok _ _ _ _ c.write_decimal.ensures.value c.write_decimal.ensures.out_after c.unwrap.ensures in
    wrote_then text number

pub returns-clause-upper_bound : goal.returns-clause-upper_bound
returns-clause-upper_bound c =
    let text = wrote-ok _ _ _ _ c.write_part.ensures.value c.write_part.ensures.out_after c.unwrap-next.ensures in
    let number = wrote-ok _ _ _ _ c.write_decimal.ensures.value c.write_decimal.ensures.out_after c.unwrap.ensures in
    omega (arith, text.end, number.end, length-decimal c.args.n)
