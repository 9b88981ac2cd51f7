-- The two halves, copied one after the other. Assumes nothing.
use Rattle.std.proofs.Common.{◌≡◌, ℕ, List, ◌++◌, length, take, drop, sym, ◌∙◌, arith, append-nil, length-append, take-append-drop, drop_of_length-le}
use Rattle.std.proofs.lemmas.List.{take-append-le, take_all}
use Rattle.std.proofs.lemmas.Slice.{take-put_mid, drop-put_mid}
use borrow.Rule.Slice.PartMut.{put_mid}
use Rattle.blake2b_compress.proofs.halves.Goals as goal

copied : (h k a b zs : List ℕ) → length h ≡ 8 → length k ≡ 8 → length zs ≡ 8 → a ≡ h → b ≡ k → put_mid 8 8 (a ++ zs) b ≡ h ++ k
copied h k a b zs lh lk lz ea eb =
    let n : length (a ++ zs) ≡ 16 = rw ea (simp length-append (omega arith)) in
    let front : take 16 (put_mid 8 8 (a ++ zs) b) ≡ take 8 (a ++ zs) ++ b = take-put_mid 8 8 (a ++ zs) b 16 (rw eb (omega arith)) (omega arith) in
    let back : drop 16 (put_mid 8 8 (a ++ zs) b) ≡ drop 16 (a ++ zs) = drop-put_mid 8 8 (a ++ zs) b 16 (omega arith) (omega arith) (rw eb lk) in
    let first : take 8 (a ++ zs) ≡ h = rw (ea, take-append-le 8 h zs (omega arith)) (take_all 8 h (omega arith)) in
    sym (take-append-drop 16 (put_mid 8 8 (a ++ zs) b))
    ∙ rw (front, back, drop_of_length-le (a ++ zs) {i = 16} (omega arith), append-nil, first, eb)

pub returns : goal.returns
returns c = copied c.args.h c.args.k _ _ _ (omega arith) (omega arith) (omega arith) c.copy_from_slice.ensures.after c.copy_from_slice-2.ensures.after
