-- What the code gives of a reading: its places and lengths, its numbers, and how many features there are; and what an answer with a place alone means.
use Rattle.std.specs.Prelude.{ℕ, List, length, Result, Ok, Err}
use Rattle.wire.specs.Reader.{Answer, got, refused, part_of}
use Rattle.wire.specs.Refusals.{number}
use Rattle.wire.specs.declared.Refusal.{Refusal}
use Rattle.vlq.specs.declared.Cursor.{Cursor}
use Rattle.handshake.specs.Entry.{EntryFeature, Entry, EntryHandshake}
use Rattle.handshake_read.specs.Parts.{EntryFeatures}
use Rattle.handshake_read.specs.declared.Features.{Features}
use Rattle.handshake_read.specs.declared.Feature.{Feature}
use Rattle.handshake_read.specs.declared.PeerSpec.{PeerSpec}
use Rattle.handshake_read.specs.declared.Handshake.{Handshake}

-- ---- what is given of a reading

abbrev pub feature_of : EntryFeature → Feature
feature_of f = record { id = f.id; body = part_of f.body }

abbrev pub peer_spec_of : Entry → PeerSpec
peer_spec_of e =
    record {
      agent = part_of e.agent;
      version = e.version;
      name = part_of e.name;
      address = e.address;
      features = record { count = length e.features; start = e.first };
    }

abbrev pub handshake_of : EntryHandshake → Handshake
handshake_of h = record { timestamp = h.timestamp; peer = peer_spec_of h.entry }

-- the size is the place where the handshake ends
abbrev pub size_answer : Result ℕ Refusal → Answer ℕ
size_answer (Ok n) = got n n
size_answer (Err m) = refused (number m)

-- ---- Only for laws, proofs and private functions: no public contract and no theorem cites what follows.

abbrev pub features_of : EntryFeatures → Features
features_of l = record { count = length l.features; start = l.first }

-- of features, nothing but where they end
abbrev pub features_ended : List EntryFeature → Unit {0}
features_ended l = tt

abbrev pub features_end_answer : Result Cursor Refusal → Answer (Unit {0})
features_end_answer (Ok c) = got tt c.at
features_end_answer (Err m) = refused (number m)
