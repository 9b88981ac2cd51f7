-- `haspeljo::bodies::haspeljo_parse_peers_body` meets its contract: number and array are those of what the reader answered, as a message.
use mathlib.Core.Path.{refl}
use Rattle.wire.specs.Reader.{Answer}
use Rattle.wire.proofs.ReaderLaws.{map-value, map-refusal}
use Rattle.messages_read.specs.declared.Message.{Message}
use Rattle.messages_read.specs.AnswersLaws.{peers-message}
use Rattle.haspeljo.proofs.ExportLaws.{reader-got, reader-refused, peers-numbers}
use Rattle.haspeljo.proofs.bodies.haspeljo_parse_peers_body.Goals as goal

pub returns-in-Ok : goal.returns-in-Ok
returns-in-Ok c =
    let says = peers-message _ c.args.body.now c.args.cap (rw c.network_of.ensures at c.in-Ok.ensures) in
    reader-got (λ (r : Answer Message). r) _ _ says (map-value _ _ _) refl (peers-numbers _ _)

pub returns-in-Err : goal.returns-in-Err
returns-in-Err c =
    let says = peers-message _ c.args.body.now c.args.cap (rw c.network_of.ensures at c.in-Err.ensures) in
    rw c.number.ensures (reader-refused (λ (r : Answer Message). r) _ _ says (map-refusal _ _) refl)
