-- The features that `build` writes, computed from the definitions.
use Rattle.std.specs.Prelude.{ℕ, Bool, true, false, List, [], ◌∷◌, map, ◌≡◌, refl, ℤ, pos, negsuc}
use Rattle.types.specs.declared.Network.{Network}
use Rattle.types.specs.declared.Network.TheVariants.{Mainnet, Testnet}
use Rattle.types.specs.declared.ProxyMode.{ProxyMode}
use Rattle.types.specs.declared.ProxyMode.TheVariants.{Full, Light}
use Rattle.types.specs.declared.Address.TheVariants.{None}
use Rattle.vlq.specs.Vlq.{vlq_in, vlq_bytes}
use Rattle.vlq_zigzag.specs.Zigzag.{zigzag_encode}
use Rattle.handshake.specs.Value.{FeatureValue}
use Rattle.handshake.specs.Writes.{Config, nipopow, mode_feature, session_feature}

pub record Case : Type 0 where
  pub network : Network
  pub mode : ProxyMode
  pub state_type : ℕ
  pub verifying : Bool
  pub blocks_to_keep : ℤ
  pub session_id : ℤ
  -- the bodies of features 16 and 3
  pub mode_body : List ℕ
  pub session_body : List ℕ

unfoldable pub case_config : Case → Config
case_config c =
    record {
      network = c.network;
      mode = c.mode;
      state_type = c.state_type;
      verifying = c.verifying;
      blocks_to_keep = c.blocks_to_keep;
      agent = [];
      version = record { major = 6; minor = 0; patch = 1 };
      name = [];
      address = None;
      timestamp = 0;
      session_id = c.session_id;
    }

unfoldable pub cases : List Case
cases =
    record {
      network = Mainnet;
      mode = Full;
      state_type = 2;
      verifying = true;
      blocks_to_keep = negsuc 1;
      session_id = pos 0;
      mode_body = 2 ∷ 1 ∷ 0 ∷ 3 ∷ [];
      session_body = 1 ∷ 0 ∷ 2 ∷ 4 ∷ 0 ∷ [];
    }
    ∷ record {
      network = Testnet;
      mode = Light;
      state_type = 1;
      verifying = false;
      blocks_to_keep = pos 64;
      session_id = negsuc 149;
      mode_body = 1 ∷ 0 ∷ 1 ∷ 2 ∷ 0x80 ∷ 1 ∷ [];
      session_body = 2 ∷ 3 ∷ 2 ∷ 3 ∷ 0xab ∷ 2 ∷ [];
    }
    ∷ []

pub all_modes : map (λ (c : Case). mode_feature (case_config c)) cases ≡ map {B = FeatureValue} (λ (c : Case). record { id = 16; body = c.mode_body }) cases
unfolding cases case_config mode_feature nipopow vlq_bytes vlq_in zigzag_encode
all_modes = refl

pub all_sessions : map (λ (c : Case). session_feature (case_config c)) cases ≡ map {B = FeatureValue} (λ (c : Case). record { id = 3; body = c.session_body }) cases
unfolding cases case_config session_feature vlq_bytes vlq_in zigzag_encode
all_sessions = refl
