-- `messages_peers_read::entry_by_index` meets its contract: once all entries are read, the one that is read after those before it.
use mathlib.Core.Path.{sym}
use borrow.Author.Tests.{lt-ltb, le-ltb}
use Rattle.std.proofs.lemmas.Result.{err_from_is_err_and}
use Rattle.wire.proofs.ReaderLaws.{map-got, map-refused, map-refusal}
use Rattle.messages_inventory_read.specs.Parts.{item_by_index}
use Rattle.messages_peers_read.specs.Parts.{entries, entry_at, entry_among}
use Rattle.messages_peers_read.specs.Answers.{entries_ended}
use Rattle.messages_peers_read.proofs.PartsLaws.{entry_among_lem}
use Rattle.messages_peers_read.proofs.entry_by_index.Goals as goal

pub returns : goal.returns
unfolding entry_among item_by_index
returns c =
    let among = entry_among_lem c.args.cap c.args.index c.args.body.now (sym c.in_ok-count.ensures) in
    let all = map-got entries_ended (sym c.in_ok-skip_entries.ensures) in
    let before = map-got entries_ended (sym c.in_ok-d.ensures) in
    rw (among, all.1, lt-ltb c.args.index c.in_ok-count.count c.if-count-index.false, before.1) c.read_entry.ensures

pub returns-then-count-index : goal.returns-then-count-index
unfolding entry_among item_by_index
returns-then-count-index c =
    let among = entry_among_lem c.args.cap c.args.index c.args.body.now (sym c.in_ok-count.ensures) in
    let all = map-got entries_ended (sym c.in_ok-skip_entries.ensures) in
    rw (among, all.1, le-ltb c.args.index c.in_ok-count.count c.if-count-index.true, map-refusal)

pub returns-in_err-d : goal.returns-in_err-d
unfolding entry_among item_by_index
returns-in_err-d c =
    let among = entry_among_lem c.args.cap c.args.index c.args.body.now (sym c.in_ok-count.ensures) in
    let all = map-got entries_ended (sym c.in_ok-skip_entries.ensures) in
    let before = map-refused entries_ended (sym c.in_err-d.ensures) in
    let p = err_from_is_err_and c.from_residual-in_err-d.result c.from_residual-in_err-d.ensures.1 in
    rw (p.1, p.2, among, all.1, lt-ltb c.args.index c.in_ok-count.count c.if-count-index.false, before, map-refusal)

pub returns-in_err-skip_entries : goal.returns-in_err-skip_entries
unfolding entry_among
returns-in_err-skip_entries c =
    let among = entry_among_lem c.args.cap c.args.index c.args.body.now (sym c.in_ok-count.ensures) in
    let all = map-refused entries_ended (sym c.in_err-skip_entries.ensures) in
    let p = err_from_is_err_and c.from_residual-in_err-skip_entries.result c.from_residual-in_err-skip_entries.ensures.1 in
    rw (p.1, p.2, among, all, map-refusal)

pub returns-in_err-count : goal.returns-in_err-count
unfolding entry_at entries
returns-in_err-count c =
    let p = err_from_is_err_and c.from_residual.result c.from_residual.ensures.1 in
    rw (p.1, p.2, sym c.in_err-count.ensures, map-refusal)
