-- `report::put_lines` meets its contract: each turn stores the line of a step, and what is to come is the block in the room that is left.
use Rattle.std.proofs.Common.{refl, arith}
use Rattle.std.proofs.lemmas.Grind.{common_steps}
use Rattle.wire_output.proofs.RoomLaws.{room-ok, wrote-ok}
use Rattle.report.proofs.BlockLaws.{laying_start, laying_turn, laying_last, laying_full}
use Rattle.report.proofs.put_lines.Goals as goal

pub loop-out-init : goal.loop-out-init
loop-out-init c = laying_start c.args.network c.args.cap c.args.s.now c.args.out.now c.args.at.0

pub overflow_sub-out : goal.overflow_sub-out
overflow_sub-out c = omega (arith, c.loop-out.invariant.fits, c.loop-out.invariant.writing.size)

pub unwrap-len-requires : goal.unwrap-len-requires
unwrap-len-requires c = room-ok _ _ _ _ c.write_part.ensures.value (grind (arith, common_steps))

pub loop-out-smaller : goal.loop-out-smaller
loop-out-smaller c =
    let w = wrote-ok _ _ _ _ c.write_part.ensures.value c.write_part.ensures.out_after c.unwrap-len.ensures in
    (rw c.in-Continue.is at (laying_turn c.args.network c.args.cap c.args.s.now c.args.out.now c.args.at.0 c.next_line-next.result _ _ refl c.next_line-next.ensures.value c.next_line-next.ensures.line_after c.next_line-next.ensures.len_bound c.loop-out-test.true c.loop-out.invariant w)).1

pub loop-out-preserved : goal.loop-out-preserved
loop-out-preserved c =
    let w = wrote-ok _ _ _ _ c.write_part.ensures.value c.write_part.ensures.out_after c.unwrap-len.ensures in
    (rw c.in-Continue.is at (laying_turn c.args.network c.args.cap c.args.s.now c.args.out.now c.args.at.0 c.next_line-next.result _ _ refl c.next_line-next.ensures.value c.next_line-next.ensures.line_after c.next_line-next.ensures.len_bound c.loop-out-test.true c.loop-out.invariant w)).0

pub returns-in-Break : goal.returns-in-Break
returns-in-Break c =
    let w = wrote-ok _ _ _ _ c.write_part.ensures.value c.write_part.ensures.out_after c.unwrap-len.ensures in
    let e = laying_last c.args.network c.args.cap c.args.s.now c.args.out.now c.args.at.0 (rw c.in-Break.is at (laying_turn c.args.network c.args.cap c.args.s.now c.args.out.now c.args.at.0 c.next_line-next.result _ _ refl c.next_line-next.ensures.value c.next_line-next.ensures.line_after c.next_line-next.ensures.len_bound c.loop-out-test.true c.loop-out.invariant w).0) in record { value = e.0; out_after = e.1.0; prefix_len = e.1.1 }

pub returns : goal.returns
returns c =
    let e = laying_full c.args.network c.args.cap c.args.s.now c.args.out.now c.args.at.0 (omega (arith, c.loop-out-test.false)) c.loop-out.invariant in record { value = e.0; out_after = e.1.0; prefix_len = e.1.1 }
