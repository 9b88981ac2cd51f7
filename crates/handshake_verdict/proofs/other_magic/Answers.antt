-- `handshake_verdict::other_magic` meets its contract: by the bytes of the first feature 3 that was found.
use mathlib.Core.Path.{ap, ◌∙◌}
use lib.ListN.{take, drop}
use Rattle.wire.specs.Bytes.{same_bytes}
use Rattle.handshake_verdict.proofs.FoundLaws.{found_at, found_none}
use Rattle.handshake_verdict.proofs.VerdictLaws.{magic-none, magic-short, magic-asked}
use Rattle.handshake_verdict.proofs.other_magic.Goals as goal

pub returns-then-f-lt4 : goal.returns-then-f-lt4
returns-then-f-lt4 c =
    let f = found_at c.args.s.now 3 _ _ c.in-Some.ensures in
    magic-short c.args.network c.args.s.now _ f c.if-f-lt4.true

pub returns : goal.returns
returns c =
    let f = found_at c.args.s.now 3 _ _ c.in-Some.ensures in
    magic-asked c.args.network c.args.s.now c.in-Some.f f c.if-f-lt4.false
    (c.matches_at.ensures ∙ ap (same_bytes (take 4 (drop c.in-Some.f.body.start c.args.s.now))) c.magic.ensures)

pub returns-in_default : goal.returns-in_default
returns-in_default c = magic-none c.args.network (found_none _ c.in_default.ensures)
