-- `walk_by_index::id_in_stream` meets its contract: an id that was read is located, and ends 32 bytes after its place.
use mathlib.Core.Path.{sym}
use borrow.Author.Rules.{rules}
use Rattle.walk_by_index.proofs.InStreamLaws.{id_at_lem}
use Rattle.walk_by_index.proofs.id_in_stream.Goals as goal

pub returns : goal.returns
returns c =
    let bytes = c.in_ok-bytes.ensures in
    let read = rw bytes.1 at (sym c.in_ok-id.ensures) in
    rw c.in_stream.ensures (id_at_lem c.args.s.now c.args.body (search rules) bytes.0 c.args.index read)
