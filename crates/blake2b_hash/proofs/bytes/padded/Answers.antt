-- The bytes, and the zero bytes that are left of the block. Assumes nothing.
use Rattle.std.proofs.Common.{◌≡◌, ℕ, ◌+◌, ◌-◌, ◌≤◌, List, ◌++◌, length, take, drop, replicate, sym, arith, length-drop}
use Rattle.std.proofs.lemmas.List.{drop-replicate}
use Rattle.blake2b.specs.Blake2b.{bb}
use Rattle.blake2b.proofs.FilledLaws.{filled-padded}
use Rattle.blake2b_hash.proofs.bytes.padded.Goals as goal

law : (s b : List ℕ) (at : ℕ) → at ≤ length s → length s ≤ at + bb → b ≡ take (length s - at) (drop at s)
    → b ++ drop (length s - at) (replicate bb 0) ≡ take bb (drop at s ++ replicate bb 0)
law s b at h l e =
    rw (e, drop-replicate {X = ℕ} (length s - at) bb 0) (filled-padded bb (drop at s) (length s - at) (sym (length-drop at s)) (omega arith))

pub returns : goal.returns
returns c = law c.args.s.now _ c.args.at (omega arith) (omega arith) c.copy_from_slice.ensures.after
