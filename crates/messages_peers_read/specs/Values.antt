-- The entries that a caller puts together from what the code gives of a Peers body: what the reader by index gives for each index below the given count.
use Rattle.std.specs.Prelude.{ℕ, List}
use Rattle.wire.specs.Reader.{map_answer}
use Rattle.handshake.specs.ByIndex.{by_index}
use Rattle.handshake.specs.Value.{EntryValue}
use Rattle.handshake_read.specs.Answers.{peer_spec_of}
use Rattle.handshake_read.specs.Values.{peer_given}
use Rattle.messages_peers_read.specs.Parts.{entry_at}

unfoldable pub peers_given : ℕ → List ℕ → ℕ → List EntryValue
peers_given cap body n = by_index (peer_given body) (λ k. map_answer peer_spec_of (entry_at cap k body)) n
