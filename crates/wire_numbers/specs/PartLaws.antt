-- What a caller knows who lends a part: the number of the bytes from its start on.
use Rattle.std.specs.Prelude.{ℕ, ◌+◌, ◌-◌, ◌≤◌, List, ◌≡◌, take, drop}
use Rattle.std.proofs.Common.{arith, ap, ◌∙◌, take-take}
use Rattle.wire.specs.Bytes.{big_endian}

pub number-part : (n : ℕ) (s : List ℕ) (start end : ℕ) {x : ℕ} → start + n ≤ end → x ≡ big_endian (take n (take (end - start) (drop start s)))
    → x ≡ big_endian (take n (drop start s))
number-part n s start end h e = e ∙ ap big_endian (take-take n (end - start) (drop start s) (omega arith))
