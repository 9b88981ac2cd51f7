-- `build` with what its parts were made of: what it says and leaves is what the numbers mean.
use Prim.Native.Nat.{ℕ}
use mathlib.Core.Bool.{true, false}
use mathlib.Core.List.{List}
use mathlib.Core.Path.{◌≡◌, refl, sym, ap, ◌∙◌}
use Rattle.wire.specs.Output.{asked, written, output_after, Written, Refused}
use Rattle.handshake.specs.Value.{handshake_bytes}
use Rattle.handshake.specs.Writes.{built, built_written}
use Rattle.handshake.specs.Writes as writes
use Rattle.handshake_build.specs.declared.Config.{Config}
use Rattle.handshake_build.specs.Parts.{config_of}
use Rattle.export_config.specs.Configs.{address_numbers}
use Rattle.haspeljo.specs.Results.{WriterLeaves}
use Rattle.haspeljo.specs.Configs.{built_from_written}
use Rattle.haspeljo.specs.Writers.{build_writer}
use Rattle.haspeljo.proofs.ExportLaws.{writer_leaves}

module _ (kind high low : ℕ) where
  -- 16 is asked first: where it is answered "yes", `build` is asked
  asked-next : address_numbers kind high low ≡ true → (c : writes.Config) (out : List ℕ) (at : ℕ) → built_written c out at ≡ built_from_written kind high low c out at
  unfolding built_from_written built_written written asked
  asked-next holds c out at = rw holds

  asked_no : address_numbers kind high low ≡ false → (c : writes.Config) (out : List ℕ) (at : ℕ) → built_from_written kind high low c out at ≡ Refused 16
  unfolding built_from_written written asked
  asked_no fails c out at = rw fails

  -- what `build` says and leaves for a Config is said and left of the numbers of an equal one
  pub build-same : {c c' : Config} → c ≡ c' → address_numbers kind high low ≡ true → (agent name out : List ℕ) (at : ℕ) {r : Written} {last : List ℕ}
      → (r ≡ built_written (config_of c agent name) out at) × (last ≡ output_after r out at (handshake_bytes (built (config_of c agent name))))
      → (r ≡ built_from_written kind high low (config_of c' agent name) out at) × (last ≡ output_after r out at (handshake_bytes (built (config_of c' agent name))))
  build-same {c} {c'} same holds agent name out at {r} wrote = (
    wrote.0 ∙ ap (λ (c : Config). built_written (config_of c agent name) out at) same ∙ asked-next holds (config_of c' agent name) out at,
    wrote.1 ∙ ap (λ (c : Config). output_after r out at (handshake_bytes (built (config_of c agent name)))) same,
  )

  pub build-refused : address_numbers kind high low ≡ false → (c : writes.Config) (out : List ℕ) (at : ℕ) (array : List ℕ)
      → WriterLeaves (build_writer kind high low c) at 16 array array out out
  unfolding output_after
  build-refused fails c out at array = writer_leaves (build_writer kind high low c) at (sym (asked_no fails c out at), refl) (refl, refl)
