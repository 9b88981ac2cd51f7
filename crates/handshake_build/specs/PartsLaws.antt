-- Laws of the parts of `build`: a writer that is not refused ends after its bytes, the handshake is its parts one after
-- the other, and what is asked of it.
use Rattle.std.specs.Prelude.{ℕ, ◌+◌, ◌≤◌, ◌&&◌, ◌≡◌, refl, ℤ, length}
use native.Mathlib.Omega.{arith}
use Rattle.std.proofs.Math.Bool.{true}
use mathlib.Core.List.{List, [], ◌∷◌, ◌++◌, flat_map, append_assoc, append-nil}
use Rattle.std.proofs.Math.Path.{sym, ap}
use Rattle.std.proofs.Common.{◌∙◌}
use Rattle.std.proofs.Math.Dec.{leb}
use Rattle.std.proofs.Math.ListN.{length-append}
use borrow.Author.Tests.{le-leb, leb-true}
use Rattle.wire.specs.Bytes.{every}
use Rattle.wire.proofs.BytesLaws.{and-true}
use Rattle.wire.specs.Output.{Question, sized, written, output_after, Written, Size, Bytes, Wrote}
use Rattle.wire.proofs.OutputLaws.{AllHold, wrote_checked}
use Rattle.vlq_utf8.specs.Utf8.{utf8}
use Rattle.vlq.specs.Vlq.{limit, vlq_bytes}
use Rattle.vlq.specs.ShortString.{max_short_string, short_string_bytes}
use Rattle.handshake.specs.Value.{FeatureValue, feature_bytes, version_bytes, address_bytes, entry_bytes, handshake_bytes, short_strings, utf8_strings, few_features, lengths_within, entries_asked}
use Rattle.handshake.specs.Writes.{mode_feature, session_feature, built}
use Rattle.wire_output.specs.Asked.{written_for, output_asked}
use Rattle.wire_output.specs.AskedLaws.{Without16, output-rest}
use Rattle.handshake_features_write.specs.Features.{mode_feature_of, session_feature_of}
use Rattle.handshake_build.specs.declared.Config.{Config}
use Rattle.handshake_build.specs.Parts.{config_of, built_size, BuildReady, before_address_bytes, mode_feature_bytes, session_feature_bytes}

-- a writer whose questions hold and that has room ends at e, the place after its bytes
pub wrote_end : (before after : List Question) (out : List ℕ) (at : ℕ) (bs : List ℕ) (e : ℕ) {r : Written} {last : List ℕ}
    → r ≡ written before after out at bs → last ≡ output_after r out at bs → e ≡ at + length bs
    → AllHold before → AllHold after → at + length bs ≤ length out → Wrote out at bs e last
wrote_end before after out at bs e says left is f t h =
    record { end = is; bytes = (wrote_checked before after out at bs says left f t h).bytes }

-- the same of bytes that depend on a signed number n, which the writer was passed as m
pub wrote_passed : (out : List ℕ) (at : ℕ) (bytes : ℤ → List ℕ) (n : ℤ) (e : ℕ) {m : ℤ} {r : Written} {last : List ℕ} → m ≡ n
    → r ≡ written [] [] out at (bytes m) → last ≡ output_after r out at (bytes m) → e ≡ at + length (bytes n)
    → at + length (bytes n) ≤ length out → Wrote out at (bytes n) e last
wrote_passed out at bytes n e {m} {r} p says left is h =
    wrote_end [] [] out at (bytes n) e
    (says ∙ ap (λ (k : ℤ). written [] [] out at (bytes k)) p)
    (left ∙ ap (λ (k : ℤ). output_after r out at (bytes k)) p)
    is tt tt h

regroup : (a b v n r : List ℕ) → (a ++ (b ++ (v ++ n))) ++ r ≡ a ++ (b ++ (v ++ (n ++ r)))
regroup a b v n r =
    append_assoc a (b ++ (v ++ n)) r
    ∙ ap (λ (l : List ℕ). a ++ l) (append_assoc b (v ++ n) r ∙ ap (λ (l : List ℕ). b ++ l) (append_assoc v n r))

-- a body is no longer than its feature
body_within_lem : (f : FeatureValue) → length f.body ≤ length (feature_bytes f)
unfolding feature_bytes
body_within_lem f = omega (arith, length-append (vlq_bytes (length f.body)) f.body)

module _ (c : Config) (agent name : List ℕ) where
  pub built_parts : handshake_bytes (built (config_of c agent name)) ≡ before_address_bytes c agent name ++ (address_bytes c.address ++ (2 ∷ (mode_feature_bytes c ++ session_feature_bytes c)))
  unfolding handshake_bytes entry_bytes built before_address_bytes flat_map mode_feature session_feature mode_feature_of session_feature_of mode_feature_bytes session_feature_bytes
  built_parts =
      ap
      (λ (l : List ℕ). vlq_bytes c.timestamp ++ (short_string_bytes agent ++ (version_bytes c.version ++ (short_string_bytes name ++ (address_bytes c.address ++ (2 ∷ (mode_feature_bytes c ++ l)))))))
      (append-nil (session_feature_bytes c))
      ∙ sym (regroup (vlq_bytes c.timestamp) (short_string_bytes agent) (version_bytes c.version) (short_string_bytes name) (address_bytes c.address ++ (2 ∷ (mode_feature_bytes c ++ session_feature_bytes c))))

  pub length-head : length (before_address_bytes c agent name) ≡ length (vlq_bytes c.timestamp) + (5 + length agent + length name)
  unfolding before_address_bytes version_bytes
  length-head =
      omega (
        arith,
        length-append (vlq_bytes c.timestamp) (short_string_bytes agent ++ (version_bytes c.version ++ short_string_bytes name)),
        length-append (short_string_bytes agent) (version_bytes c.version ++ short_string_bytes name),
        length-append (version_bytes c.version) (short_string_bytes name),
      )

  pub length-built : length (handshake_bytes (built (config_of c agent name)))
      ≡ length (before_address_bytes c agent name) + length (address_bytes c.address) + (1 + length (mode_feature_bytes c) + length (session_feature_bytes c))
  length-built =
      omega (
        arith,
        ap length built_parts,
        length-append (before_address_bytes c agent name) (address_bytes c.address ++ (2 ∷ (mode_feature_bytes c ++ session_feature_bytes c))),
        length-append (address_bytes c.address) (2 ∷ (mode_feature_bytes c ++ session_feature_bytes c)),
        length-append (mode_feature_bytes c) (session_feature_bytes c),
      )

  -- once the strings are accepted, every question is answered "yes"
  pub built_bytes_lem : length (mode_feature_bytes c) ≤ 16 → length (session_feature_bytes c) ≤ 16 → BuildReady agent name
      → built_size (config_of c agent name) ≡ Bytes (length (handshake_bytes (built (config_of c agent name))))
  unfolding built_size entries_asked sized every short_strings utf8_strings few_features lengths_within built mode_feature session_feature mode_feature_of session_feature_of mode_feature_bytes session_feature_bytes
  built_bytes_lem mode session ready =
      let m = mode_feature (config_of c agent name) in
      let s = session_feature (config_of c agent name) in
      rw (
        le-leb (length agent) max_short_string ready.shortagent,
        le-leb (length name) max_short_string ready.shortname,
        ready.utfagent,
        ready.utfname,
        le-leb (length m.body) limit (omega (arith, mode, body_within_lem m)),
        le-leb (length s.body) limit (omega (arith, session, body_within_lem s)),
      )

  -- with the output's questions they are those of `build`
  pub built-asked : (len at : ℕ) → output_asked len at (built_size (config_of c agent name))
      ≡ written_for [] (entries_asked ((built (config_of c agent name)).entry ∷ [])) len at (length (handshake_bytes (built (config_of c agent name))))
  unfolding built_size entries_asked Without16
  built-asked len at = output-rest len at _ _ (refl, (refl, (refl, (refl, tt))))

  -- what is said once both are asked
  pub built-says : (len at : ℕ) {r : Written} {size : Size} → r ≡ output_asked len at size → size ≡ built_size (config_of c agent name)
      → r ≡ written_for [] (entries_asked ((built (config_of c agent name)).entry ∷ [])) len at (length (handshake_bytes (built (config_of c agent name))))
  built-says len at says is = says ∙ ap (output_asked len at) is ∙ built-asked len at

  pub build_ready : AllHold (entries_asked ((built (config_of c agent name)).entry ∷ [])) → BuildReady agent name
  unfolding entries_asked every short_strings utf8_strings built
  build_ready holds =
      let s = and-true (leb (length agent) max_short_string) (leb (length name) max_short_string) (and-true (leb (length agent) max_short_string && leb (length name) max_short_string) true holds.0).0 in
      let u = and-true (utf8 agent) (utf8 name) (and-true (utf8 agent && utf8 name) true holds.1.0).0 in
      record { shortagent = leb-true (length agent) max_short_string s.0; shortname = leb-true (length name) max_short_string s.1; utfagent = u.0; utfname = u.1 }
