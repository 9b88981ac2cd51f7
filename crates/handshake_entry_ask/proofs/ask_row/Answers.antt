-- `handshake_entry_ask::ask_row` meets its contract: the question that was answered "no", or the bytes before the
-- features and theirs.
use Rattle.std.proofs.Common.{◌-◌, arith, sym, ◌∙◌}
use Rattle.handshake.specs.Tables.{bytes_at}
use Rattle.handshake.proofs.TablesLaws.{parts_inside, own_range}
use Rattle.handshake_entry_rows.specs.Row.{tables_of}
use Rattle.handshake_entry_ask.specs.RowLaws.{fails_12, fails_13, fails_4, fails_15, short_row, last_3}
use Rattle.handshake_entry_ask.proofs.ask_row.Goals as goal

pub returns-then-not-row_inside : goal.returns-then-not-row_inside
returns-then-not-row_inside c = fails_12 (tables_of c.args.t) c.args.e (sym c.row_inside.ensures ∙ c.if-not-row_inside.true)

pub returns-then-not-strings_short : goal.returns-then-not-strings_short
returns-then-not-strings_short c =
    let within = sym c.row_inside.ensures ∙ c.if-not-row_inside.false in
    fails_13 (tables_of c.args.t) c.args.e within (sym c.strings_short.ensures ∙ c.if-not-strings_short.true)

pub returns-then-not-strings_utf8 : goal.returns-then-not-strings_utf8
returns-then-not-strings_utf8 c =
    let within = sym c.row_inside.ensures ∙ c.if-not-row_inside.false in
    let short = sym c.strings_short.ensures ∙ c.if-not-strings_short.false in
    fails_4 (tables_of c.args.t) c.args.e within short (sym c.strings_utf8.ensures ∙ c.if-not-strings_utf8.true)

pub returns-then-e-gt-MAX_FEATURES : goal.returns-then-e-gt-MAX_FEATURES
returns-then-e-gt-MAX_FEATURES c =
    let within = sym c.row_inside.ensures ∙ c.if-not-row_inside.false in
    let short = sym c.strings_short.ensures ∙ c.if-not-strings_short.false in
    let text = sym c.strings_utf8.ensures ∙ c.if-not-strings_utf8.false in
    fails_15 (tables_of c.args.t) c.args.e within short text (omega arith)

pub features_size-requires : goal.features_size-requires
features_size-requires c =
    let l = tables_of c.args.t in
    let within = sym c.row_inside.ensures ∙ c.if-not-row_inside.false in
    let short = sym c.strings_short.ensures ∙ c.if-not-strings_short.false in
    let s = short_row l c.args.e within short in
    record {
      before_bound = (omega (arith, s.0, s.1, c.address_len.ensures.1), omega arith, own_range l c.args.e within);
      count_value = (parts_inside l c.args.e within).features;
    }

pub returns : goal.returns
returns c =
    let within = sym c.row_inside.ensures ∙ c.if-not-row_inside.false in
    let short = sym c.strings_short.ensures ∙ c.if-not-strings_short.false in
    let text = sym c.strings_utf8.ensures ∙ c.if-not-strings_utf8.false in
    let address = c.address_len.ensures.0 (bytes_at c.args.t.buffer.now c.args.e.addrat (c.args.e.addrlen - 4)) in
    last_3 (tables_of c.args.t) c.args.e within short text _ (omega arith) (omega (arith, address)) c.features_size.ensures
