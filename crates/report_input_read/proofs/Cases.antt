-- What a read's answer means that asked for 4,096 bytes.
use Rattle.std.proofs.Common.{◌≡◌, Ok, Err, Continue, Break, refl}
use Rattle.report_input_read.specs.Input.{turn_after}

module _ (E : Type 0) (e : E) where
  pub failed_at_once : turn_after (Err e) 0 4096 ≡ Break (Err e)
  failed_at_once = refl

  pub failed_after-bytes : turn_after (Err e) 5 4096 ≡ Break (Err e)
  failed_after-bytes = refl

  pub end-at_once : turn_after {E = E} (Ok 0) 0 4096 ≡ Break (Ok 0)
  end-at_once = refl

  pub end_after-bytes : turn_after {E = E} (Ok 0) 5 4096 ≡ Break (Ok 5)
  end_after-bytes = refl

  pub short-goes-on : turn_after {E = E} (Ok 1) 5 4096 ≡ Continue 6
  short-goes-on = refl

  pub whole-goes-on : turn_after {E = E} (Ok 4096) 5 4096 ≡ Continue 4101
  whole-goes-on = refl
