-- A part is stored whole by its first i bytes and then its last w, if no byte lies between these.
use Rattle.std.specs.Prelude.{ℕ, ◌+◌, ◌-◌, ◌≤◌, List, ◌≡◌, length, take, drop}
use Rattle.std.proofs.Common.{arith, ◌∙◌, length-drop, take_all}
use Rattle.wire.specs.Output.{Wrote}
use Rattle.wire.proofs.StandingLaws.{wrote_over}

pub last_block : (w : ℕ) {out : List ℕ} {at m : ℕ} {mid b : List ℕ} {e : ℕ} {last : List ℕ} (s : List ℕ) (i : ℕ) → w ≤ length s → length s ≤ i + w → i ≤ length s
    → at + length s ≤ length out → Wrote out at (take i s) m mid → b ≡ take w (drop (length s - w) s) → Wrote mid (at + (length s - w)) b e last → Wrote out at s e last
last_block w s i p q r h v x u =
    let j : ℕ = length s - w in
    let y = x ∙ take_all w (drop j s) (omega (arith, length-drop j s)) in
    wrote_over i j (omega arith) r h v (rw y at u)
