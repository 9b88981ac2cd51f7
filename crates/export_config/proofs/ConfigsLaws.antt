-- What is known of the numbers once they have been read.
use Rattle.std.specs.Prelude.{Result, Ok, Err, ℕ, Bool, true, false, cond, ◌≡◌, refl, ℤ}
use Rattle.std.proofs.Common.{arith}
use Rattle.wire.specs.declared.Refusal.{Refusal}
use Rattle.wire.specs.declared.Refusal.TheVariants.{BadTable}
use Rattle.types.specs.declared.Network.{Network}
use Rattle.handshake_build.specs.declared.Config.{Config}
use Rattle.export_config.specs.Configs.{address_numbers, config_from, config_read}

asked-value : (b : Bool) (x : Config) {c : Config} → ◌≡◌ {A = Result Config Refusal} (cond b (Ok x) (Err BadTable)) (Ok c) → (b ≡ true) × (x ≡ c)
asked-value true x e = (refl, cc)
asked-value false x e = let z : ◌≡◌ {A = ℕ} 0 1 = cc in absurd (omega arith)

asked-refused : (b : Bool) (x : Config) {m : Refusal} → ◌≡◌ {A = Result Config Refusal} (cond b (Ok x) (Err BadTable)) (Err m) → (b ≡ false) × (BadTable ≡ m)
asked-refused true x e = let z : ◌≡◌ {A = ℕ} 0 1 = cc in absurd (omega arith)
asked-refused false x e = (refl, cc)

module _ (network : Network) (light state_type verifying : ℕ) (blocks_to_keep : ℤ) (major minor patch kind high low port timestamp : ℕ) (session : ℤ) where
  pub value_of : {c : Config} → config_read network light state_type verifying blocks_to_keep major minor patch kind high low port timestamp session ≡ Ok c
      → (address_numbers kind high low ≡ true) × (config_from network light state_type verifying blocks_to_keep major minor patch kind high low port timestamp session ≡ c)
  unfolding config_read
  value_of e = asked-value (address_numbers kind high low) _ e

  pub refused-of : {m : Refusal} → config_read network light state_type verifying blocks_to_keep major minor patch kind high low port timestamp session ≡ Err m
      → (address_numbers kind high low ≡ false) × (BadTable ≡ m)
  unfolding config_read
  refused-of e = asked-refused (address_numbers kind high low) _ e
