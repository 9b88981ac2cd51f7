-- `handshake_entry_write::put_head` meets its contract: agent, version and name were stored one after the other.
use Rattle.std.proofs.Common.{arith}
use Rattle.wire.proofs.OutputLaws.{wrote_then, wrote_length}
use Rattle.handshake_entry_rows.specs.Row.{tables_of}
use Rattle.handshake_entry_ask.specs.Asked.{head_bytes}
use Rattle.handshake_entry_ask.specs.LengthLaws.{length-head}
use Rattle.handshake_entry_ask.specs.RowLaws.{short_lengths}
use Rattle.handshake_entry_write.proofs.put_head.Goals as goal

pub put_string-a-requires : goal.put_string-a-requires
put_string-a-requires c =
    let short = short_lengths (tables_of c.args.t) c.args.e c.requires.e_value.1 in
    let head = length-head c.args.t.buffer.now c.args.e in
    record { s_len_bound = rw c.bytes_at.ensures short.0; s_in_bounds = rw c.bytes_at.ensures (omega (arith, head)) }

pub put_version-b-requires : goal.put_version-b-requires
put_version-b-requires c =
    let short = short_lengths (tables_of c.args.t) c.args.e c.requires.e_value.1 in
    let head = length-head c.args.t.buffer.now c.args.e in
    let w = rw c.bytes_at.ensures at c.put_string-a.ensures in
    record { e_value = c.requires.e_value.0; at_in_bounds = omega (arith, head, w.end, wrote_length w) }

pub put_string-requires : goal.put_string-requires
put_string-requires c =
    let short = short_lengths (tables_of c.args.t) c.args.e c.requires.e_value.1 in
    let head = length-head c.args.t.buffer.now c.args.e in
    let w = rw c.bytes_at.ensures at c.put_string-a.ensures in
    let v = c.put_version-b.ensures in
    record {
      s_len_bound = rw c.bytes_at-2.ensures short.1;
      s_in_bounds = rw c.bytes_at-2.ensures (omega (arith, head, w.end, wrote_length w, v.end, wrote_length v));
    }

pub returns : goal.returns
unfolding head_bytes
returns c =
    wrote_then (rw c.bytes_at.ensures at c.put_string-a.ensures)
    (wrote_then c.put_version-b.ensures (rw c.bytes_at-2.ensures at c.put_string.ensures))
