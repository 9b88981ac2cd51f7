-- The contract of each writer, as the code states it, says that a call of it is a write (walk/specs/Calls.antt): `Post` is the contract of a function,
-- of the lifetimes κs, what it was given, what it returned and what it left. That a call's numbers are in the range of their types is part of these
-- contracts where a reading rests on it, so that the theorems on written sessions (walk/specs/Theorems.antt) hold of every list of calls: calls that meet
-- these contracts, each from where the last one left the output, are such a list (`calls_go-on`, walk/proofs/DemandsProved.antt).
use Prim.Native.Nat.{ℕ}
use mathlib.Core.Path.{◌≡◌}
use contract.Lifetimes.{Lfts}
use Rattle.wire.specs.Output.{written_said}
use Rattle.types.specs.declared.Network.{Network}
use Rattle.handshake.specs.Tables.{Tables}
use Rattle.handshake_entry_rows.specs.Row.{tables_of}
use Rattle.handshake_build.specs.Parts.{config_of}
use Rattle.messages.specs.Writes.{MessageWrite, write_get_peers, write_peers, write_modifier_request, write_modifier_response, write_inv, write_sync_info, write_unknown}
use Rattle.walk.specs.WrittenSession.{write_handshake, write_built, write_message}
use Rattle.walk.specs.Calls.{Called}
use Rattle.walk.proofs.CallsLaws.{called-handshake, called-built, called-peers, called-message}
use Rattle.handshake_write.proofs.write_handshake.Reads as write_handshake
use Rattle.handshake_build.proofs.build.Reads as build
use Rattle.messages_peers_write.proofs.write_peers.Reads as write_peers
use Rattle.messages_opaque_write.proofs.write_get_peers.Reads as write_get_peers
use Rattle.messages_inventory_write.proofs.write_modifier_request.Reads as write_modifier_request
use Rattle.messages_response_write.proofs.write_modifier_response.Reads as write_modifier_response
use Rattle.messages_inventory_write.proofs.write_inv.Reads as write_inv
use Rattle.messages_opaque_write.proofs.write_sync_info.Reads as write_sync_info
use Rattle.messages_opaque_write.proofs.write_unknown.Reads as write_unknown

-- every message but Peers, of which alone the cap is asked
abbrev Other : MessageWrite → Type 0
Other (write_peers l) = ⊥
Other write_get_peers = Unit {0}
Other (write_modifier_request type ids buffer) = Unit {0}
Other (write_modifier_response type payloads buffer) = Unit {0}
Other (write_inv type ids buffer) = Unit {0}
Other (write_sync_info body) = Unit {0}
Other (write_unknown code body) = Unit {0}

other-message : (w : MessageWrite) → Other w → (l : Tables) → w ≡ write_peers l → ⊥
other-message w o l e = rw e at o

module _ (network : Network) (cap : ℕ) where
  pub handshake_called : (κs : Lfts 2) (out : _) (at timestamp : ℕ) (t : _) (k : ℕ) (r left : _)
      → write_handshake.Post κs (out, (at, (timestamp, (t, (k, tt))))) r left
      → Called network cap (write_handshake timestamp (tables_of t) k) out.now at (written_said r) left.0.now
  handshake_called κs out at timestamp t k r left c = called-handshake network cap _ _ _ c.0 c.1.0 c.1.1

  pub built_called : (κs : Lfts 3) (out : _) (at : ℕ) (config agent name : _) (r left : _)
      → build.Post κs (out, (at, (config, (agent, (name, tt))))) r left
      → Called network cap (write_built (config_of config agent.now name.now)) out.now at (written_said r) left.0.now
  built_called κs out at config agent name r left c = called-built network cap _ c.0 c.1.0 c.1.1

  pub peers_called : (κs : Lfts 2) (out : _) (at : ℕ) (t : _) (r left : _)
      → write_peers.Post κs (out, (at, (network, (cap, (t, tt))))) r left
      → Called network cap (write_message (write_peers (tables_of t))) out.now at (written_said r) left.0.now
  peers_called κs out at t r left c = called-peers network cap _ c.0 c.1.0 c.1.1

  pub get_peers_called : (κs : Lfts 1) (out : _) (at : ℕ) (r left : _)
      → write_get_peers.Post κs (out, (at, (network, tt))) r left
      → Called network cap (write_message write_get_peers) out.now at (written_said r) left.0.now
  get_peers_called κs out at r left c =
      called-message network cap _ (other-message _ tt) c.0 c.1

  pub modifier_request_called : (κs : Lfts 3) (out : _) (at type : ℕ) (ids buffer : _) (r left : _)
      → write_modifier_request.Post κs (out, (at, (network, (type, (ids, (buffer, tt)))))) r left
      → Called network cap (write_message (write_modifier_request type ids.now buffer.now)) out.now at (written_said r) left.0.now
  modifier_request_called κs out at type ids buffer r left c =
      called-message network cap _ (other-message _ tt) c.0 c.1

  pub modifier_response_called : (κs : Lfts 3) (out : _) (at type : ℕ) (payloads buffer : _) (r left : _)
      → write_modifier_response.Post κs (out, (at, (network, (type, (payloads, (buffer, tt)))))) r left
      → Called network cap (write_message (write_modifier_response type payloads.now buffer.now)) out.now at (written_said r) left.0.now
  modifier_response_called κs out at type payloads buffer r left c =
      called-message network cap _ (other-message _ tt) c.0 c.1

  pub inv_called : (κs : Lfts 3) (out : _) (at type : ℕ) (ids buffer : _) (r left : _)
      → write_inv.Post κs (out, (at, (network, (type, (ids, (buffer, tt)))))) r left
      → Called network cap (write_message (write_inv type ids.now buffer.now)) out.now at (written_said r) left.0.now
  inv_called κs out at type ids buffer r left c =
      called-message network cap _ (other-message _ tt) c.0 c.1

  pub sync_info_called : (κs : Lfts 2) (out : _) (at : ℕ) (body : _) (r left : _)
      → write_sync_info.Post κs (out, (at, (network, (body, tt)))) r left
      → Called network cap (write_message (write_sync_info body.now)) out.now at (written_said r) left.0.now
  sync_info_called κs out at body r left c =
      called-message network cap _ (other-message _ tt) c.0 c.1

  pub unknown_called : (κs : Lfts 2) (out : _) (at code : ℕ) (body : _) (r left : _)
      → write_unknown.Post κs (out, (at, (network, (code, (body, tt))))) r left
      → Called network cap (write_message (write_unknown code body.now)) out.now at (written_said r) left.0.now
  unknown_called κs out at code body r left c =
      called-message network cap _ (other-message _ tt) c.0 c.1
