-- `handshake_write::write_handshake` meets its contract: behind the place of the timestamp the entry was written, or
-- refused, and the timestamp was stored before it.
use Rattle.std.proofs.Common.{arith, refl, ap, ◌∙◌, length}
use Rattle.std.proofs.lemmas.Result.{err_from_is_err_and}
use mathlib.Core.List.{[], ◌∷◌}
use Rattle.wire.specs.Output.{ask}
use Rattle.wire_output.proofs.RoomLaws.{room-ok, wrote-ok}
use Rattle.vlq.specs.Vlq.{vlq_bytes}
use Rattle.handshake.specs.Value.{entry_bytes, handshake_bytes}
use Rattle.handshake.specs.Tables.{tables_whole}
use Rattle.handshake.specs.Writes.{entry_at_row, row_asked, entry_written, handshake_written}
use Rattle.handshake_entry_rows.specs.Row.{tables_of}
use Rattle.handshake_write.specs.Behind.{behind}
use Rattle.handshake_write.specs.BehindLaws.{entry-some, behind-room_left, behind_stored, behind-refused}
use Rattle.handshake_write.proofs.write_handshake.Goals as goal

pub returns-in_err-end : goal.returns-in_err-end
unfolding entry_written handshake_written handshake_bytes
returns-in_err-end c =
    let l = tables_of c.args.t in
    let p = err_from_is_err_and c.from_residual.result c.from_residual.ensures.1 in
    let place = c.place_behind-place.ensures ∙ ap (behind (length c.args.out.now) c.args.at) c.vlq_len.ensures in
    let w = behind-refused (ask 16 (tables_whole l) ∷ []) (row_asked l c.args.k) c.args.out.now c.args.at _ (vlq_bytes c.args.timestamp) (entry_bytes (entry_at_row l c.args.k)) place (entry-some (entry_at_row l c.args.k)) c.in_err-end.ensures.value c.in_err-end.ensures.out_after refl in
    rw (p.1, p.2) (record { value = w.0; out_after = w.1; timestamp_bound = (omega arith, c.args.t.bytes) })

pub unwrap-requires : goal.unwrap-requires
unfolding entry_written
unwrap-requires c =
    let l = tables_of c.args.t in
    let place = c.place_behind-place.ensures ∙ ap (behind (length c.args.out.now) c.args.at) c.vlq_len.ensures in
    room-ok _ _ _ _ c.write_vlq.ensures.value
    (behind-room_left (ask 16 (tables_whole l) ∷ []) (row_asked l c.args.k) c.args.out.now c.args.at _ (vlq_bytes c.args.timestamp) (entry_bytes (entry_at_row l c.args.k)) place (entry-some (entry_at_row l c.args.k)) c.in_ok-end.ensures.value c.in_ok-end.ensures.out_after refl)

pub returns : goal.returns
unfolding entry_written handshake_written handshake_bytes
returns c =
    let l = tables_of c.args.t in
    let place = c.place_behind-place.ensures ∙ ap (behind (length c.args.out.now) c.args.at) c.vlq_len.ensures in
    let first = wrote-ok _ _ _ _ c.write_vlq.ensures.value c.write_vlq.ensures.out_after c.unwrap.ensures in
    let w = behind_stored (ask 16 (tables_whole l) ∷ []) (row_asked l c.args.k) c.args.out.now c.args.at _ (vlq_bytes c.args.timestamp) (entry_bytes (entry_at_row l c.args.k)) place (entry-some (entry_at_row l c.args.k)) c.in_ok-end.ensures.value c.in_ok-end.ensures.out_after refl first in
    record { value = w.0; out_after = w.1; timestamp_bound = (omega arith, c.args.t.bytes) }
