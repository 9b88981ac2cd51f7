-- `wire_part_write::put_part` meets its contract: of no bytes nothing is stored.
use Rattle.std.proofs.Common.{◌≡◌, ℕ, suc, List, [], ◌∷◌, length, arith}
use Rattle.wire.specs.Output.{Wrote}
use Rattle.wire.proofs.OutputLaws.{wrote_none}
use Rattle.wire_part_write.proofs.put_part.Goals as goal

nothing : (out : List ℕ) (at : ℕ) (s : List ℕ) → length s ≡ 0 → Wrote out at s at out
nothing out at [] h = wrote_none _ _
nothing out at (b ∷ s) h = absurd (omega arith)

pub returns-in-0 : goal.returns-in-0
returns-in-0 c = nothing _ _ _ c.in-0.is
