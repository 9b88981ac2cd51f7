-- `messages_response_write::ask_response` meets its contract: each answer is the definition's, by the tests that led to
-- it.
use Prim.Native.Nat.{◌/◌, ◌%◌}
use native.Mathlib.Omega.{arith}
use mathlib.Core.Path.{sym, ◌∙◌}
use lib.ListN.{length}
use borrow.Author.Tests.{le-leb, lt-leb, eq-eqb, ne_eqb}
use Rattle.wire.specs.Output.{asked}
use Rattle.frame_write.specs.Asked.{frame_written_for}
use Rattle.handshake.specs.Tables.{whole_rows, inside}
use Rattle.messages.specs.Writes.{payload_rows, payload_inside}
use Rattle.messages_response_write.specs.Asked.{response_written_for}
use Rattle.messages_response_write.proofs.ResponseLaws.{within-rows, length-response}
use Rattle.messages_response_write.proofs.ask_response.Goals as goal

pub returns-then-payloads-ne0 : goal.returns-then-payloads-ne0
unfolding response_written_for asked whole_rows
returns-then-payloads-ne0 c = rw (ne_eqb (length c.args.payloads.now % 3) 0 c.if-payloads-ne0.true)

pub returns-then-len-at : goal.returns-then-len-at
unfolding response_written_for asked whole_rows
returns-then-len-at c = rw (eq-eqb (length c.args.payloads.now % 3) 0 c.if-payloads-ne0.false, lt-leb _ _ c.if-len-at.true)

pub returns-then-not-payloads_inside : goal.returns-then-not-payloads_inside
unfolding response_written_for asked whole_rows payload_inside inside
returns-then-not-payloads_inside c =
    rw (
      eq-eqb (length c.args.payloads.now % 3) 0 c.if-payloads-ne0.false,
      le-leb _ _ c.if-len-at.false,
      sym c.payloads_inside.ensures ∙ c.if-not-payloads_inside.true,
    )

pub returns-then-not-payloads_within : goal.returns-then-not-payloads_within
unfolding response_written_for asked whole_rows payload_inside inside
returns-then-not-payloads_within c =
    let parts = sym c.payloads_inside.ensures ∙ c.if-not-payloads_inside.false in
    rw (
      eq-eqb (length c.args.payloads.now % 3) 0 c.if-payloads-ne0.false,
      le-leb _ _ c.if-len-at.false,
      parts,
      within-rows c.args.buffer.now (payload_rows c.args.payloads.now) parts,
      sym c.payloads_within.ensures ∙ c.if-not-payloads_within.true,
    )

pub returns-then-payloads-gt-MAX_INV_OBJECTS : goal.returns-then-payloads-gt-MAX_INV_OBJECTS
unfolding response_written_for asked whole_rows payload_inside inside
returns-then-payloads-gt-MAX_INV_OBJECTS c =
    let parts = sym c.payloads_inside.ensures ∙ c.if-not-payloads_inside.false in
    rw (
      eq-eqb (length c.args.payloads.now % 3) 0 c.if-payloads-ne0.false,
      le-leb _ _ c.if-len-at.false,
      parts,
      within-rows c.args.buffer.now (payload_rows c.args.payloads.now) parts,
      sym c.payloads_within.ensures ∙ c.if-not-payloads_within.false,
      lt-leb (length c.args.payloads.now / 3) 400 (omega arith),
    )

pub response_len-requires : goal.response_len-requires
response_len-requires c =
    record { payload_row_size_len_bound = omega arith; payloads_value = sym c.payloads_within.ensures ∙ c.if-not-payloads_within.false }

pub returns : goal.returns
unfolding response_written_for frame_written_for asked whole_rows payload_inside inside
returns c =
    let place = le-leb _ _ c.if-len-at.false in
    let parts = sym c.payloads_inside.ensures ∙ c.if-not-payloads_inside.false in
    let size = c.response_len.ensures ∙ sym (length-response c.args.modifier_type c.args.payloads.now c.args.buffer.now parts) in
    rw (
      eq-eqb (length c.args.payloads.now % 3) 0 c.if-payloads-ne0.false,
      place,
      parts,
      within-rows c.args.buffer.now (payload_rows c.args.payloads.now) parts,
      sym c.payloads_within.ensures ∙ c.if-not-payloads_within.false,
      le-leb (length c.args.payloads.now / 3) 400 (omega arith),
    ) (rw (size, place) at c.ask_frame.ensures)
