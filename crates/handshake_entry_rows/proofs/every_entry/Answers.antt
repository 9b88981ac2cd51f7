-- `handshake_entry_rows::every_entry` meets its contract: `all` asks each row of the table.
use Rattle.std.proofs.Common.{rules, refl, ap, ◌≡◌, ◌/◌, ℕ, true, false, Bool, length, arith}
use Rattle.std.proofs.lemmas.Iterator.{cases_from_all, YieldsList-from_range}
use Rattle.handshake.specs.Tables.{entry_row, entry_numbers}
use Rattle.handshake_entry_rows.specs.Row.{row_or_zeros}
use Rattle.handshake_entry_rows.specs.ValueLaws.{row-there}
use Rattle.handshake_entry_rows.proofs.EveryLaws.{every-range}
use Rattle.handshake_entry_rows.proofs.every_entry.Goals as goal

pub returns : goal.returns
returns c =
    let s = c.args.t.entries.now in
    let n = length s / 12 in
    let t : ℕ → Bool = λ k. entry_numbers (row_or_zeros s k) in
    every-range entry_numbers (entry_row s) t 0 n (λ k l g. ap entry_numbers (row-there s k (omega arith))) c.all.result
    (cases_from_all _ _ _ (λ k. t k ≡ true) (λ k. t k ≡ false) c.all.ensures.ran (YieldsList-from_range 0 _ n refl (omega arith)) (λ x q k. search rules) (λ x q k. search rules))
