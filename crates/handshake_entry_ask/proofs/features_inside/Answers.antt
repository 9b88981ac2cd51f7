-- `handshake_entry_ask::features_inside` meets its contract: `all` asks each row of the entry's features.
use Rattle.std.proofs.Common.{rules, refl, ap, ◌≡◌, ◌+◌, ℕ, true, false, Bool, length, arith, leb}
use Rattle.std.proofs.lemmas.Iterator.{cases_from_all, YieldsList-from_range}
use Rattle.handshake.specs.Tables.{feature_row, inside, feature_inside}
use Rattle.handshake_entry_rows.specs.Row.{feature_or_zeros}
use Rattle.handshake_entry_rows.specs.ValueLaws.{feature-there}
use Rattle.handshake_entry_rows.proofs.EveryLaws.{every-range}
use Rattle.handshake_entry_ask.proofs.features_inside.Goals as goal

pub returns : goal.returns
unfolding feature_inside inside
returns c =
    let s = c.args.t.features.now in
    let b = c.args.t.buffer.now in
    let t : ℕ → Bool = λ k. leb ((feature_or_zeros s k).at + (feature_or_zeros s k).len) (length b) in
    every-range (feature_inside b) (feature_row s) t c.args.e.first c.args.e.count (λ k l g. ap (feature_inside b) (feature-there s k (omega arith))) c.all.result
    (cases_from_all _ _ _ (λ k. t k ≡ true) (λ k. t k ≡ false) c.all.ensures.ran (YieldsList-from_range c.args.e.first _ c.args.e.count refl (omega arith)) (λ x q k. search rules) (λ x q k. search rules))
