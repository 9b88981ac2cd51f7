-- `handshake_entry_rows::every_id` meets its contract: `all` asks each row of the table.
use Rattle.std.proofs.Common.{rules, refl, ap, ◌≡◌, ◌/◌, ℕ, true, false, Bool, length, arith, ltb}
use Rattle.std.proofs.lemmas.Iterator.{cases_from_all, YieldsList-from_range}
use Rattle.handshake.specs.Tables.{feature_row, feature_numbers}
use Rattle.handshake_entry_rows.specs.Row.{feature_or_zeros}
use Rattle.handshake_entry_rows.specs.ValueLaws.{feature-there}
use Rattle.handshake_entry_rows.proofs.EveryLaws.{every-range}
use Rattle.handshake_entry_rows.proofs.every_id.Goals as goal

pub returns : goal.returns
unfolding feature_numbers
returns c =
    let s = c.args.t.features.now in
    let n = length s / 3 in
    let t : ℕ → Bool = λ k. ltb (feature_or_zeros s k).id 256 in
    every-range feature_numbers (feature_row s) t 0 n (λ k l g. ap feature_numbers (feature-there s k (omega arith))) c.all.result
    (cases_from_all _ _ _ (λ k. t k ≡ true) (λ k. t k ≡ false) c.all.ensures.ran (YieldsList-from_range 0 _ n refl (omega arith)) (λ x q k. search rules) (λ x q k. search rules))
