-- `handshake_entry_write::put_entry` meets its contract: head, address, count and features were stored one after the other.
use native.Mathlib.Omega.{arith}
use lib.ListN.{length-set}
use Rattle.wire.proofs.OutputLaws.{wrote_then, wrote_byte, wrote_length}
use Rattle.handshake.specs.Tables.{inside, entry_inside}
use Rattle.handshake.proofs.TablesLaws.{parts_inside, own_range}
use Rattle.handshake_entry_ask.specs.LengthLaws.{entry_parts_lem, length-entry}
use Rattle.handshake_entry_rows.specs.Row.{tables_of}
use Rattle.handshake_entry_write.proofs.put_entry.Goals as goal

pub put_head-a-requires : goal.put_head-a-requires
put_head-a-requires c =
    let l = tables_of c.args.t in
    let whole = length-entry l c.args.e in
    record {
      e_value = (c.requires.ready.numbers, c.requires.ready.short);
      e_in_bounds = omega (arith, whole);
    }

pub put_address-b-requires : goal.put_address-b-requires
unfolding entry_inside inside
put_address-b-requires c =
    let l = tables_of c.args.t in
    let whole = length-entry l c.args.e in
    record {
      e_value = (c.requires.ready.numbers, (parts_inside l c.args.e c.requires.ready.inside).address);
      port_in_bounds = omega (arith, whole, c.put_head-a.ensures.end, wrote_length c.put_head-a.ensures);
    }

pub overflow_cast-out : goal.overflow_cast-out
overflow_cast-out c =
    omega (arith, c.requires.ready.few)

pub bounds-out-b : goal.bounds-out-b
bounds-out-b c =
    let l = tables_of c.args.t in
    let whole = length-entry l c.args.e in
    omega (arith, whole, c.put_head-a.ensures.end, wrote_length c.put_head-a.ensures, c.put_address-b.ensures.end, wrote_length c.put_address-b.ensures)

pub overflow_add-b : goal.overflow_add-b
overflow_add-b c =
    let l = tables_of c.args.t in
    let whole = length-entry l c.args.e in
    omega (arith, whole, c.put_head-a.ensures.end, wrote_length c.put_head-a.ensures, c.put_address-b.ensures.end, wrote_length c.put_address-b.ensures)

pub put_features-requires : goal.put_features-requires
put_features-requires c =
    let l = tables_of c.args.t in
    let whole = length-entry l c.args.e in
    let a = c.put_head-a.ensures in
    let b = c.put_address-b.ensures in
    record {
      count_in_bounds = own_range l c.args.e c.requires.ready.inside;
      count_value = (c.requires.ready.ids, (parts_inside l c.args.e c.requires.ready.inside).features);
      count_in_bounds_2 = simp length-set (omega (arith, whole, a.end, wrote_length a, b.end, wrote_length b));
    }

pub returns : goal.returns
returns c =
    let l = tables_of c.args.t in
    rw (entry_parts_lem l c.args.e)
    (wrote_then c.put_head-a.ensures (wrote_then c.put_address-b.ensures (wrote_then (wrote_byte _ _ c.args.e.count) c.put_features.ensures)))
