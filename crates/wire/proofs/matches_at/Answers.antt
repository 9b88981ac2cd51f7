-- `wire::matches_at` meets its contract: past the end no byte stands.
use Rattle.std.proofs.Common.{◌≡◌, ◌≤◌, ◌-◌, ℕ, Bool, List, length, take, drop, ◌∙◌, arith, take_all, length-drop, drop_of_length-le}
use Rattle.std.proofs.lemmas.Bool.{lt-leb}
use Rattle.std.specs.List.{starts_with}
use Rattle.std.specs.Prelude.{eqb}
use Rattle.wire.specs.Bytes.{same_bytes}
use Rattle.wire.proofs.BytesLaws.{same_pointwise, same_none}
use Rattle.wire.proofs.matches_at.Goals as goal

starts : (s k : List ℕ) (at : ℕ) (r : Bool) → at ≤ length s → length k ≡ 4
    → r ≡ starts_with eqb (take (length s - at) (drop at s)) k → r ≡ same_bytes (take 4 (drop at s)) k
starts s k at r h l e =
    let f : length (drop at s) ≤ length s - at = simp length-drop (omega arith) in
    e ∙ rw (take_all (length s - at) (drop at s) f, l) (same_pointwise _ _)

pub returns-then-at-s : goal.returns-then-at-s
returns-then-at-s c =
    let h : c.args.at ≤ length c.args.s.now = omega arith in
    starts _ _ _ _ h (omega arith) c.starts_with.ensures.value

pub returns-else-at-s : goal.returns-else-at-s
returns-else-at-s c =
    let h : length c.args.s.now ≤ c.args.at = omega arith in
    rw (drop_of_length-le c.args.s.now h, same_none c.args.four (omega arith)) (lt-leb _ _ (omega arith))
