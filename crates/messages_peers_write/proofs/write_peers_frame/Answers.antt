-- `messages_peers_write::write_peers_frame` meets its contract: once the entries were accepted, the count was stored
-- before them and the frame closed around both.
use Rattle.std.proofs.Common.{arith, refl, sym, ◌∙◌}
use Rattle.std.proofs.lemmas.Result.{err_from_is_err_and}
use Rattle.wire.proofs.StandingLaws.{after-refused}
use Rattle.wire_output.proofs.RoomLaws.{room-ok, wrote-ok}
use Rattle.handshake_entry_rows.specs.Row.{tables_of}
use Rattle.messages_peers_write.specs.PeersLaws.{body_end, frame_closed}
use Rattle.messages_peers_write.proofs.write_peers_frame.Goals as goal

pub returns-in_err-end : goal.returns-in_err-end
returns-in_err-end c =
    let p = err_from_is_err_and c.from_residual.result c.from_residual.ensures.1 in
    let w = rw (c.vlq_len-before.ensures, c.entry_count-count.ensures) at c.in_err-end.ensures in
    rw (p.1, p.2) (record { value = w.value; out_after = w.out_after ∙ sym (after-refused _ _ refl) ∙ after-refused _ _ refl })

pub overflow_sub-end : goal.overflow_sub-end
overflow_sub-end c =
    let w = rw (c.vlq_len-before.ensures, c.entry_count-count.ensures) at c.in_ok-end.ensures in
    omega (arith, body_end c.args.network (tables_of c.args.t) c.args.out.now c.args.at w.value w.out_after refl)

pub unwrap-requires : goal.unwrap-requires
unwrap-requires c =
    room-ok _ _ _ _ c.write_vlq.ensures.value (rw c.entry_count-count.ensures (omega (arith, c.requires)))

pub returns : goal.returns
returns c =
    let w = rw (c.vlq_len-before.ensures, c.entry_count-count.ensures) at c.in_ok-end.ensures in
    let v = rw c.entry_count-count.ensures at (wrote-ok _ _ _ _ c.write_vlq.ensures.value c.write_vlq.ensures.out_after c.unwrap.ensures) in
    let f = frame_closed c.args.network (tables_of c.args.t) c.args.out.now c.args.at w.value w.out_after refl v c.close_frame.ensures.value c.close_frame.ensures.out_after in
    record { value = f.0 ∙ w.value; out_after = f.1 }
