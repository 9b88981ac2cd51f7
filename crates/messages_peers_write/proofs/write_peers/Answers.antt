-- `messages_peers_write::write_peers` meets its contract: where the frame can start the entries were asked and written
-- once, elsewhere they were asked alone.
use Rattle.std.proofs.Common.{◌/◌, sym, ◌∙◌, length}
use Rattle.handshake_entry_rows.specs.Row.{tables_of}
use Rattle.messages.specs.Value.{code_of}
use Rattle.messages.specs.Writes.{value_of}
use Rattle.messages_peers_write.specs.PeersLaws.{start-room, rows-peers, refused-peers, not-started}
use Rattle.messages_peers_write.proofs.write_peers.Goals as goal

pub write_peers_frame-requires : goal.write_peers_frame-requires
write_peers_frame-requires c =
    let start = rw c.entry_count-count.ensures at (sym c.has_start.ensures ∙ c.if-has_start.true) in
    start-room c.args.cap (length c.args.t.entries.now / 12) (length c.args.out.now) c.args.at start

pub returns-then-has_start : goal.returns-then-has_start
unfolding value_of code_of
returns-then-has_start c =
    let start = rw c.entry_count-count.ensures at (sym c.has_start.ensures ∙ c.if-has_start.true) in
    record {
      value = c.write_peers_frame.ensures.value ∙ rows-peers c.args.network c.args.cap (tables_of c.args.t) c.args.out.now c.args.at start;
      out_after = c.write_peers_frame.ensures.out_after;
      buffer_value = c.args.t.bytes;
    }

pub returns : goal.returns
returns c =
    let l = tables_of c.args.t in
    let start = rw c.entry_count-count.ensures at (sym c.has_start.ensures ∙ c.if-has_start.false) in
    let size = rw (c.vlq_len.ensures, c.entry_count-count.ensures) at c.ask_entries-size.ensures in
    let refusal = rw (size, c.entry_count-count.ensures) at c.first_refusal.ensures in
    let says = rw refusal at c.ask_output.ensures ∙ refused-peers c.args.network c.args.cap l c.args.out.now c.args.at start in
    record { value = says; out_after = not-started c.args.network c.args.cap l c.args.out.now c.args.at _ _ says start; buffer_value = c.args.t.bytes }
