-- The features Mode and Session of `build`, each from what it is made of: nothing else that `build` is given plays
-- a part.
use Rattle.std.specs.Prelude.{ℕ, Bool, false, [], ℤ, pos}
use Rattle.types.specs.declared.Network.{Network}
use Rattle.types.specs.declared.Network.TheVariants.{Mainnet}
use Rattle.types.specs.declared.ProxyMode.{ProxyMode}
use Rattle.types.specs.declared.ProxyMode.TheVariants.{Full}
use Rattle.types.specs.declared.Address.TheVariants.{None}
use Rattle.handshake.specs.Value.{FeatureValue}
use Rattle.handshake.specs.Writes.{Config, mode_feature, session_feature}
use Rattle.handshake_features_write.specs.declared.Mode.{Mode}

-- agent, version, name, address and timestamp are left empty
abbrev made : Network → ProxyMode → ℕ → Bool → ℤ → ℤ → Config
made network mode state_type verifying blocks_to_keep session =
    record {
      network = network;
      mode = mode;
      state_type = state_type;
      verifying = verifying;
      blocks_to_keep = blocks_to_keep;
      agent = [];
      version = record { major = 0; minor = 0; patch = 0 };
      name = [];
      address = None;
      timestamp = 0;
      session_id = session;
    }

unfoldable pub mode_feature_of : Mode → FeatureValue
mode_feature_of m = mode_feature (made Mainnet m.proxy m.state_type_id m.verifying m.blocks_to_keep (pos 0))

unfoldable pub session_feature_of : Network → ℤ → FeatureValue
session_feature_of network session = session_feature (made network Full 0 false (pos 0) session)
