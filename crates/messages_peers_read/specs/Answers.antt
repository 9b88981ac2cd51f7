-- What the code gives of a reading: places, lengths and counts; and what an answer with a place alone means.
use Rattle.std.specs.Prelude.{ℕ, List, length, Result, Ok, Err}
use Rattle.wire.specs.Reader.{Answer, got, refused}
use Rattle.wire.specs.Refusals.{number}
use Rattle.wire.specs.declared.Refusal.{Refusal}
use Rattle.vlq.specs.declared.Cursor.{Cursor}
use Rattle.types.specs.declared.Network.{Network}
use Rattle.handshake.specs.Entry.{Entry}
use Rattle.messages.specs.Bogus.{bogus_count}
use Rattle.messages_peers_read.specs.Parts.{entries_start}
use Rattle.messages_peers_read.specs.declared.Peers.{Peers}

-- ---- what is given of a reading of the body s

abbrev pub peers_of : Network → List ℕ → List Entry → Peers
peers_of network s l = record { count = length l; bogus = bogus_count network l; start = record { 0 = entries_start s } }

-- ---- Only for laws, proofs and private functions: no public contract and no theorem cites what follows.

-- of entries, nothing but where they end
abbrev pub entries_ended : List Entry → Unit {0}
entries_ended l = tt

abbrev pub entries_end_answer : Result Cursor Refusal → Answer (Unit {0})
entries_end_answer (Ok c) = got tt c.at
entries_end_answer (Err m) = refused (number m)
