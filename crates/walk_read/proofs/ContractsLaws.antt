-- The contracts of `step` and of the readers by index, as the code states them, say that a call returned what the theorems on what is given are about
-- (specs/Given.antt, specs/Values.antt): `Post` is the contract of a function, of the lifetimes κs, what it was given, what it returned and what it left.
use Prim.Native.Nat.{ℕ}
use mathlib.Core.Path.{◌≡◌}
use contract.Lifetimes.{Lfts}
use lib.ListN.{length}
use Rattle.wire.specs.Reader.{map_answer}
use Rattle.vlq.specs.Answers.{read_answer}
use Rattle.vlq.specs.declared.Cursor.{Cursor}
use Rattle.types.specs.Answers.{body_answer}
use Rattle.types.specs.declared.BodyPlace.{BodyPlace}
use Rattle.types.specs.declared.Network.{Network}
use Rattle.types.specs.declared.StreamPlace.{StreamPlace}
use Rattle.handshake.specs.Entry.{entry, feature}
use Rattle.handshake_read.specs.Answers.{feature_of, peer_spec_of}
use Rattle.handshake_read.specs.Parts.{feature_at}
use Rattle.messages.specs.Message.{payload_after}
use Rattle.messages_inventory_read.specs.Answers.{id_of, id_answer}
use Rattle.messages_response_read.specs.Answers.{payload_of, payload_sum}
use Rattle.messages_inventory_read.specs.Parts.{id_at}
use Rattle.messages_response_read.specs.Parts.{payload_at}
use Rattle.messages_peers_read.specs.Parts.{entry_at}
use Rattle.handshake_read.proofs.feature_by_index.Reads as feature_by_index
use Rattle.handshake_read.proofs.read_feature.Reads as read_feature
use Rattle.messages_inventory_read.proofs.id_by_index.Reads as id_by_index
use Rattle.messages_response_read.proofs.payload_by_index.Reads as payload_by_index
use Rattle.messages_response_read.proofs.read_payload.Reads as read_payload
use Rattle.messages_peers_read.proofs.entry_by_index.Reads as entry_by_index
use Rattle.messages_peers_read.proofs.read_entry.Reads as entry-reads
use Rattle.walk_read.specs.Given.{given}
use Rattle.walk_read.proofs.step.Reads as step

pub step_given : (κs : Lfts 1) (s : _) (network : Network) (cap : ℕ) (at : StreamPlace) (r left : _)
    → step.Post κs (s, (network, (cap, (at, tt)))) r left
    → r ≡ given network cap s.now at.0
unfolding given
step_given κs s network cap at r left c = c

-- ---- by index

pub id_by_index_lem : (κs : Lfts 1) (body : _) (index : ℕ) (r left : _) → id_by_index.Post κs (body, (index, tt)) r left
    → id_answer r ≡ map_answer id_of (id_at index body.now)
id_by_index_lem κs body index r left c = c

pub payload_by_index_lem : (κs : Lfts 1) (body : _) (index : ℕ) (r left : _) → payload_by_index.Post κs (body, (index, tt)) r left
    → body_answer r ≡ map_answer payload_of (payload_at index body.now)
payload_by_index_lem κs body index r left c = c

pub entry_by_index_lem : (κs : Lfts 1) (body : _) (cap index : ℕ) (r left : _) → entry_by_index.Post κs (body, (cap, (index, tt))) r left
    → body_answer r ≡ map_answer peer_spec_of (entry_at cap index body.now)
entry_by_index_lem κs body cap index r left c = c

pub feature_by_index_lem : (κs : Lfts 1) (s : _) (at : Cursor) (index : ℕ) (r left : _) → feature_by_index.Post κs (s, (at, (index, tt))) r left
    → read_answer r ≡ map_answer feature_of (feature_at index s.now at.at)
feature_by_index_lem κs s at index r left c = c

-- ---- from a place on

pub payload-from : (κs : Lfts 1) (body : _) (at : BodyPlace) (total : ℕ) (r left : _) → read_payload.Post κs (body, (at, (total, tt))) r left
    → body_answer r ≡ map_answer (payload_sum total) (payload_after (length body.now) total body.now at.0)
payload-from κs body at total r left c = c

pub entry-from : (κs : Lfts 1) (body : _) (at : BodyPlace) (r left : _) → entry-reads.Post κs (body, (at, tt)) r left
    → body_answer r ≡ map_answer peer_spec_of (entry body.now at.0)
entry-from κs body at r left c = c

pub feature-from : (κs : Lfts 1) (s : _) (at : Cursor) (r left : _) → read_feature.Post κs (s, (at, tt)) r left
    → read_answer r ≡ map_answer feature_of (feature s.now at.at)
feature-from κs s at r left c = c
