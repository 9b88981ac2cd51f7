-- The writers of entries and handshakes: what each says, and the bytes it writes.
use Rattle.std.specs.Prelude.{ℕ, ◌/◌, Bool, cond, ◌&&◌, List, [], ◌∷◌, ◌++◌, ltb, ℤ, length}
use Rattle.wire.specs.Output.{Question, ask, written, Written}
use Rattle.vlq.specs.Vlq.{vlq_bytes}
use Rattle.vlq_zigzag.specs.Zigzag.{zigzag_encode}
use Rattle.types.specs.declared.Network.{Network}
use Rattle.types.specs.declared.ProxyMode.{ProxyMode}
use Rattle.types.specs.declared.ProxyMode.TheVariants.{Full, Light}
use Rattle.types.specs.declared.Version.{Version}
use Rattle.types.specs.declared.Address.{Address}
use Rattle.types.specs.Magic.{magic_of}
use Rattle.handshake.specs.Value.{FeatureValue, EntryValue, HandshakeValue, entry_bytes, handshake_bytes, entries_asked}
use Rattle.handshake.specs.Tables.{entry_row_size, Tables, entry_row, entry_from_row, tables_whole, entry_inside}

-- ---- from a row of a table

-- the value of row k
abbrev pub entry_at_row : Tables → ℕ → EntryValue
entry_at_row ts k = entry_from_row ts (entry_row ts.entries k)

-- 12: is the row in its table, and is all that it names inside?
unfoldable pub row_inside : Tables → ℕ → Bool
row_inside ts k = ltb k (length ts.entries / entry_row_size) && entry_inside ts (entry_row ts.entries k)

-- the questions after the place's, of the one entry in row k
abbrev pub row_asked : Tables → ℕ → List Question
row_asked ts k = ask 12 (row_inside ts k) ∷ entries_asked (entry_at_row ts k ∷ [])

unfoldable pub entry_written : Tables → ℕ → List ℕ → ℕ → Written
entry_written ts k out at = written (ask 16 (tables_whole ts) ∷ []) (row_asked ts k) out at (entry_bytes (entry_at_row ts k))

-- a timestamp with the entry in row k
abbrev pub handshake_at_row : ℕ → Tables → ℕ → HandshakeValue
handshake_at_row timestamp ts k = record { timestamp = timestamp; entry = entry_at_row ts k }

unfoldable pub handshake_written : ℕ → Tables → ℕ → List ℕ → ℕ → Written
handshake_written timestamp ts k out at =
    written (ask 16 (tables_whole ts) ∷ []) (row_asked ts k) out at (handshake_bytes (handshake_at_row timestamp ts k))

-- ---- `build`

-- what `build` is given: strings as slices, the timestamp and the session id from the caller
pub record Config : Type 0 where
  pub network : Network
  pub mode : ProxyMode
  pub state_type : ℕ
  pub verifying : Bool
  pub blocks_to_keep : ℤ
  pub agent : List ℕ
  pub version : Version
  pub name : List ℕ
  pub address : Address
  pub timestamp : ℕ
  pub session_id : ℤ

unfoldable pub nipopow : ProxyMode → List ℕ
nipopow Full = 0 ∷ []
nipopow Light = 1 ∷ 2 ∷ []

-- 16 (Mode): state type byte, verifying byte 0 or 1, then 00 in Full or 01 02 in Light, then zigzag VLQ of blocks to keep
unfoldable pub mode_feature : Config → FeatureValue
mode_feature c =
    record { id = 16; body = c.state_type ∷ (cond c.verifying 1 0 ∷ (nipopow c.mode ++ vlq_bytes (zigzag_encode c.blocks_to_keep))) }

-- 3 (Session): magic, zigzag VLQ of the session id
unfoldable pub session_feature : Config → FeatureValue
session_feature c = record { id = 3; body = magic_of c.network ++ vlq_bytes (zigzag_encode c.session_id) }

unfoldable pub built : Config → HandshakeValue
built c =
    record {
      timestamp = c.timestamp;
      entry = record {
        agent = c.agent;
        version = c.version;
        name = c.name;
        address = c.address;
        features = mode_feature c ∷ session_feature c ∷ [];
      };
    }

unfoldable pub built_written : Config → List ℕ → ℕ → Written
built_written c out at = written [] (entries_asked ((built c).entry ∷ [])) out at (handshake_bytes (built c))
