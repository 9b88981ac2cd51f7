-- `messages_response_write::put_rows` meets its contract: the rows before k were stored.
use native.Mathlib.Omega.{arith}
use Rattle.handshake.proofs.PuttingLaws.{putting_start, putting_passed, putting_room, putting_turn, putting_end}
use Rattle.messages_response_write.proofs.put_rows.Goals as goal

pub loop-k-init : goal.loop-k-init
loop-k-init c = putting_start _ _ _ _ _ _ _ c.requires.payloads_value c.requires.buffer_in_bounds

pub put_payload-o-requires : goal.put_payload-o-requires
put_payload-o-requires c =
    record {
      row_value = rw c.payload_at.ensures (putting_passed c.loop-k.invariant (omega arith));
      row_in_bounds = rw c.payload_at.ensures (putting_room c.loop-k.invariant (omega arith));
    }

pub loop-k-preserved : goal.loop-k-preserved
loop-k-preserved c =
    let w = rw c.payload_at.ensures at c.put_payload-o.ensures in
    putting_turn c.loop-k.invariant (omega arith) w

pub shape_of-out : goal.shape_of-out
shape_of-out c = c.loop-k.invariant.writing.size

pub returns : goal.returns
returns c = putting_end c.loop-k.invariant (omega arith)
