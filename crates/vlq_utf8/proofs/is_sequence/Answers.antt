-- `vlq_utf8::is_sequence` answers as utf8 does: each turn is some steps of utf8_from (`proofs/Walk.antt`).
use Rattle.std.proofs.Common.{sym, ◌∙◌, arith, refl}
use Rattle.vlq_utf8.proofs.Walk.{at-start, at_lead, at_ascii, at-bad, at-end, at-next}
use Rattle.vlq_utf8.proofs.is_sequence.Goals as goal

pub loop-at-init : goal.loop-at-init
loop-at-init c = at-start _

pub returns-in_default : goal.returns-in_default
returns-in_default c = at-bad c.loop-at.invariant (omega arith) refl (sym c.lead_of.ensures ∙ c.in_default.is)

pub returns-in_default-after_followers : goal.returns-in_default-after_followers
returns-in_default-after_followers c =
    let lead = at_lead c.loop-at.invariant (omega arith) _ refl (sym c.lead_of.ensures ∙ c.in-Some.is) in
    sym (lead.same ∙ c.in_default-after_followers.ensures)

pub loop-at-preserved-then-b-gt127 : goal.loop-at-preserved-then-b-gt127
loop-at-preserved-then-b-gt127 c =
    let lead = at_lead c.loop-at.invariant (omega arith) _ refl (sym c.lead_of.ensures ∙ c.in-Some.is) in
    at-next lead c.in-Some-after_followers.ensures.1 c.in-Some-after_followers.ensures.2

pub loop-at-preserved : goal.loop-at-preserved
loop-at-preserved c = at_ascii c.loop-at.invariant (omega arith) refl c.if-b-gt127.false

pub returns : goal.returns
returns c = at-end c.loop-at.invariant (omega arith)
