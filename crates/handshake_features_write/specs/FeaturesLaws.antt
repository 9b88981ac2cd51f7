-- Laws of the features of `build`: they are those of any Config with their parts, their bytes one after the other, and
-- how many there are.
use Rattle.std.specs.Prelude.{ℕ, ◌+◌, ◌^◌, ◌≤◌, ◌<◌, cond, ◌≡◌, ℤ, length}
use Rattle.std.proofs.Common.{arith, sym, ◌∙◌, length-append}
use mathlib.Core.List.{List, [], ◌∷◌, ◌++◌}
use Rattle.std.proofs.Math.Path.{refl, ap}
use Rattle.vlq.specs.Vlq.{vlq_bytes}
use Rattle.vlq.proofs.VlqLaws.{vlq-last, vlq_ten}
use Rattle.vlq_zigzag.specs.Zigzag.{zigzag_encode}
use Rattle.types.specs.Magic.{magic_of}
use Rattle.types.specs.declared.Network.{Network}
use Rattle.types.specs.declared.Network.TheVariants.{Mainnet, Testnet}
use Rattle.types.specs.declared.ProxyMode.{ProxyMode}
use Rattle.types.specs.declared.ProxyMode.TheVariants.{Full, Light}
use Rattle.handshake.specs.Value.{FeatureValue, feature_bytes}
use Rattle.handshake.specs.Writes.{Config, nipopow, mode_feature, session_feature}
use Rattle.handshake_features_write.specs.declared.Mode.{Mode}
use Rattle.handshake_features_write.specs.Features.{mode_feature_of, session_feature_of}

module _ (c : Config) where
  pub mode_of : mode_feature c ≡ mode_feature_of (record { proxy = c.mode; state_type_id = c.state_type; verifying = c.verifying; blocks_to_keep = c.blocks_to_keep })
  unfolding mode_feature mode_feature_of
  mode_of = refl

  pub session-of : session_feature c ≡ session_feature_of c.network c.session_id
  unfolding session_feature session_feature_of
  session-of = refl

-- ---- a feature with a short body, whose length is one byte

module _ (f : FeatureValue) (short : length f.body < 128) where
  short-bytes : feature_bytes f ≡ f.id ∷ length f.body ∷ f.body
  unfolding feature_bytes
  short-bytes = ap (λ (l : List ℕ). f.id ∷ (l ++ f.body)) (vlq-last (length f.body) short)

  short-length : length (feature_bytes f) ≡ 2 + length f.body
  short-length = omega (arith, ap length short-bytes)

-- the body's length, from that of the feature
short-of : (f : FeatureValue) {n : ℕ} → n + 2 ≡ length (feature_bytes f) → length f.body < 128 → feature_bytes f ≡ f.id ∷ n ∷ f.body
short-of f {n} p short =
    let e : length f.body ≡ n = omega (arith, short-length f short) in
    short-bytes f short ∙ ap (λ (k : ℕ). f.id ∷ (k ∷ f.body)) e

-- ---- with the numbers that the code has

nipopow-two : (m : ProxyMode) → length (nipopow m) ≤ 2
unfolding nipopow
nipopow-two Full = omega arith
nipopow-two Light = omega arith

module _ (mode : Mode) {z : ℕ} (e : z ≡ zigzag_encode mode.blocks_to_keep) (small : z < 2 ^ 64) where
  abbrev mode_feature_lem : FeatureValue
  mode_feature_lem = mode_feature_of mode

  mode_body_lem : mode_feature_lem.body ≡ mode.state_type_id ∷ (cond mode.verifying 1 0 ∷ (nipopow mode.proxy ++ vlq_bytes z))
  unfolding mode_feature_of mode_feature
  mode_body_lem = ap (λ (y : ℕ). mode.state_type_id ∷ (cond mode.verifying 1 0 ∷ (nipopow mode.proxy ++ vlq_bytes y))) (sym e)

  mode-size : length mode_feature_lem.body ≡ 2 + length (nipopow mode.proxy) + length (vlq_bytes z)
  mode-size = omega (arith, ap length mode_body_lem, length-append (nipopow mode.proxy) (vlq_bytes z))

  mode-short : length mode_feature_lem.body < 128
  mode-short = omega (arith, mode-size, nipopow-two mode.proxy, vlq_ten z small)

  pub length-mode : length (feature_bytes mode_feature_lem) ≡ 4 + length (nipopow mode.proxy) + length (vlq_bytes z)
  length-mode = omega (arith, mode-size, short-length mode_feature_lem mode-short)

  pub mode_parts : {n flag : ℕ} → n + 2 ≡ length (feature_bytes mode_feature_lem) → flag ≡ cond mode.verifying 1 0
      → feature_bytes mode_feature_lem ≡ (16 ∷ n ∷ mode.state_type_id ∷ flag ∷ []) ++ (nipopow mode.proxy ++ vlq_bytes z)
  unfolding mode_feature_of mode_feature
  mode_parts {n} {flag} p q =
      short-of mode_feature_lem p mode-short ∙ ap (λ (l : List ℕ). 16 ∷ (n ∷ l)) mode_body_lem
      ∙ ap (λ (x : ℕ). 16 ∷ (n ∷ (mode.state_type_id ∷ (x ∷ (nipopow mode.proxy ++ vlq_bytes z))))) (sym q)

pub length-magic : (n : Network) → length (magic_of n) ≡ 4
length-magic Mainnet = refl
length-magic Testnet = refl

module _ (network : Network) (session : ℤ) {z : ℕ} (e : z ≡ zigzag_encode session) (small : z < 2 ^ 64) where
  abbrev session_feature_lem : FeatureValue
  session_feature_lem = session_feature_of network session

  session_body_lem : session_feature_lem.body ≡ magic_of network ++ vlq_bytes z
  unfolding session_feature_of session_feature
  session_body_lem = ap (λ (y : ℕ). magic_of network ++ vlq_bytes y) (sym e)

  session-size : length session_feature_lem.body ≡ 4 + length (vlq_bytes z)
  session-size = omega (arith, ap length session_body_lem, length-append (magic_of network) (vlq_bytes z), length-magic network)

  session-short : length session_feature_lem.body < 128
  session-short = omega (arith, session-size, vlq_ten z small)

  pub length-session : length (feature_bytes session_feature_lem) ≡ 6 + length (vlq_bytes z)
  length-session = omega (arith, session-size, short-length session_feature_lem session-short)

  pub session_parts : {n : ℕ} → n + 2 ≡ length (feature_bytes session_feature_lem) → feature_bytes session_feature_lem ≡ (3 ∷ n ∷ []) ++ (magic_of network ++ vlq_bytes z)
  unfolding session_feature_of session_feature
  session_parts {n} p = short-of session_feature_lem p session-short ∙ ap (λ (l : List ℕ). 3 ∷ (n ∷ l)) session_body_lem
