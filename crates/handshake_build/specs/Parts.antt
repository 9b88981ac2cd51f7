-- What `build` is given, and the parts that it is put together from.
use Rattle.std.specs.Prelude.{ℕ, ◌≤◌, true, List, [], ◌∷◌, ◌++◌, ◌≡◌, length}
use Rattle.wire.specs.Output.{sized, Size}
use Rattle.vlq_utf8.specs.Utf8.{utf8}
use Rattle.vlq.specs.Vlq.{vlq_bytes}
use Rattle.vlq.specs.ShortString.{max_short_string, short_string_bytes}
use Rattle.handshake.specs.Value.{feature_bytes, version_bytes, handshake_bytes, entries_asked}
use Rattle.handshake.specs.Writes.{built}
use Rattle.handshake.specs.Writes as writes
use Rattle.handshake_features_write.specs.Features.{mode_feature_of, session_feature_of}
use Rattle.handshake_build.specs.declared.Config.{Config}

-- what `build` is given, as its definition has it
abbrev pub config_of : Config → List ℕ → List ℕ → writes.Config
config_of c agent name =
    record {
      network = c.network;
      mode = c.mode.proxy;
      state_type = c.mode.state_type_id;
      verifying = c.mode.verifying;
      blocks_to_keep = c.mode.blocks_to_keep;
      agent = agent;
      version = c.version;
      name = name;
      address = c.address;
      timestamp = c.timestamp;
      session_id = c.session;
    }

-- ---- Only for laws, proofs and private functions: no public contract and no theorem cites what follows.

-- the questions of what `build` makes, and how many bytes it has
unfoldable pub built_size : writes.Config → Size
built_size c = sized (entries_asked ((built c).entry ∷ [])) (length (handshake_bytes (built c)))

-- agent and name that are accepted
pub record BuildReady (agent name : List ℕ) : Type 0 where
  pub shortagent : length agent ≤ max_short_string
  pub shortname : length name ≤ max_short_string
  pub utfagent : utf8 agent ≡ true
  pub utfname : utf8 name ≡ true

-- timestamp, agent, version and name
unfoldable pub before_address_bytes : Config → List ℕ → List ℕ → List ℕ
before_address_bytes c agent name = vlq_bytes c.timestamp ++ (short_string_bytes agent ++ (version_bytes c.version ++ short_string_bytes name))

-- the two features
unfoldable pub mode_feature_bytes : Config → List ℕ
mode_feature_bytes c = feature_bytes (mode_feature_of c.mode)

unfoldable pub session_feature_bytes : Config → List ℕ
session_feature_bytes c = feature_bytes (session_feature_of c.network c.session)
