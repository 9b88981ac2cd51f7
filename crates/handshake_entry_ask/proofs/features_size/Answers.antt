-- `handshake_entry_ask::features_size` meets its contract. The loop has counted the bytes of the rows before k, each
-- with a length within the limit.
use Rattle.std.proofs.Common.{ℕ, List, true, ◌<◌, ◌+◌, ◌-◌, ◌≡◌, sym, ap, ◌∙◌, arith, length, leb, length-append, le-leb}
use Rattle.std.proofs.Math.Nat.{sub-zero}
use Rattle.std.proofs.lemmas.Bool.{lt-leb}
use mathlib.Core.List.{map, flat_map}
use Rattle.wire.specs.Output.{sized, Bytes}
use Rattle.vlq.specs.Vlq.{limit}
use Rattle.handshake.specs.declared.FeatureRow.{FeatureRow}
use Rattle.handshake.specs.Value.{feature_bytes}
use Rattle.wire.specs.Bytes.{every}
use Rattle.handshake.specs.Tables.{rows, bytes_at, feature_row, feature_from_row, feature_inside, inside}
use Rattle.handshake.proofs.TablesLaws.{length-bytes_at}
use Rattle.handshake.proofs.RowsLaws.{rows-from, bytes_next, bytes-none, passed_start, passed-next, passed-not, passed-end}
use Rattle.handshake_entry_rows.specs.Row.{tables_of}
use Rattle.handshake_entry_rows.specs.ValueLaws.{part-inside}
use Rattle.handshake_entry_ask.specs.LengthLaws.{body_within, length-feature, within-rows}
use Rattle.handshake_entry_ask.proofs.features_size.Goals as goal

pub loop-k-init : goal.loop-k-init
loop-k-init c = (rw (sub-zero, rows-from (feature_row c.args.t.features.now) c.args.e.first c.args.e.count) (omega arith), omega arith, passed_start _ _ _)

-- the body of a row that is inside has as many bytes as the row says
body_length : (buffer features : List ℕ) (first count k : ℕ) → every (feature_inside buffer) (rows (feature_row features) first count) ≡ true → k < count
    → length (bytes_at buffer (feature_row features (first + k)).at (feature_row features (first + k)).len) ≡ (feature_row features (first + k)).len
unfolding inside
body_length buffer features first count k h l =
    let f = feature_row features (first + k) in
    length-bytes_at buffer f.at f.len (le-leb (f.at + f.len) (length buffer) (part-inside buffer features first count k h l))

pub returns-then-n-gt-MAX_BODY_SIZE : goal.returns-then-n-gt-MAX_BODY_SIZE
unfolding sized body_within
returns-then-n-gt-MAX_BODY_SIZE c =
    let long = body_length c.args.t.buffer.now c.args.t.features.now c.args.e.first c.args.e.count c.loop-k.k c.requires.count_value (omega arith) in
    let size = lt-leb _ _ c.if-n-gt-MAX_BODY_SIZE.true in
    let no = passed-not c.loop-k.invariant.2 (omega arith) (ap (λ n. leb n limit) long ∙ size) in
    rw (within-rows (tables_of c.args.t) c.args.e, sym no)

pub overflow_add-m : goal.overflow_add-m
overflow_add-m c = omega (arith, c.feature_len-m.ensures.1)

pub loop-k-preserved : goal.loop-k-preserved
unfolding body_within
loop-k-preserved c =
    let g = feature_from_row c.args.t.buffer.now in
    let f : ℕ → FeatureRow = λ i. feature_row c.args.t.features.now (c.args.e.first + i) in
    let long = body_length c.args.t.buffer.now c.args.t.features.now c.args.e.first c.args.e.count c.loop-k.k c.requires.count_value (omega arith) in
    let within = ap (λ n. leb n limit) long ∙ le-leb _ _ c.if-n-gt-MAX_BODY_SIZE.false in
    let next = ap length (bytes_next feature_bytes g f c.loop-k.k c.args.e.count (omega arith)) in
    let one : c.feature_len-m.result ≡ length (feature_bytes (g (f c.loop-k.k))) = rw (← long) at c.feature_len-m.ensures.0 ∙ sym (length-feature c.args.t.buffer.now (f c.loop-k.k)) in
    let both = length-append (feature_bytes (g (f c.loop-k.k))) (flat_map feature_bytes (map g (rows f (c.loop-k.k + 1) (c.args.e.count - (c.loop-k.k + 1))))) in
    (omega (arith, c.loop-k.invariant.0, next, one, both), omega (arith, c.loop-k.invariant.1, c.feature_len-m.ensures.1), passed-next c.loop-k.invariant.2 (omega arith) within)

pub returns : goal.returns
unfolding sized
returns c =
    let yes = passed-end c.loop-k.invariant.2 (omega arith) in
    let done = ap length (bytes-none feature_bytes (feature_from_row c.args.t.buffer.now) (λ i. feature_row c.args.t.features.now (c.args.e.first + i)) c.loop-k.k c.args.e.count (omega arith)) in
    rw (within-rows (tables_of c.args.t) c.args.e, sym yes) (ap Bytes (omega (arith, c.loop-k.invariant.0, done)))
