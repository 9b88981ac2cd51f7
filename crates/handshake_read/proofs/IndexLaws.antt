-- A feature by index, from what was read of the entry and of the features before it.
use Prim.Native.Nat.{ℕ, ◌≤◌, ◌<◌}
use native.Mathlib.Omega.{arith}
use mathlib.Core.List.{List}
use mathlib.Core.Path.{◌≡◌, ap, sym, ◌∙◌}
use lib.ListN.{length}
use Rattle.wire.specs.Reader.{got, refused, list_of}
use Rattle.wire.proofs.AnswerLaws.{no_answer, end_of_lem}
use Rattle.wire.proofs.ListOfLaws.{indexed}
use Rattle.handshake.specs.Entry.{EntryFeature, feature, Entry, entry}
use Rattle.handshake_read.specs.declared.PeerSpec.{PeerSpec}
use Rattle.handshake_read.specs.Parts.{feature_at}
use Rattle.handshake_read.proofs.PartsLaws.{entry_listed, nth-indexed, nth-outside}
use Rattle.handshake_read.specs.Answers.{peer_spec_of}

module _ (k : ℕ) (s : List ℕ) (at : ℕ) {e : Entry} {next : ℕ} {p : PeerSpec} (q : entry s at ≡ got e next) (h : peer_spec_of e ≡ p) where
  count : length e.features ≡ p.features.count
  count = ap (λ (p : PeerSpec). p.features.count) h

  start : e.first ≡ p.features.start
  start = ap (λ (p : PeerSpec). p.features.start) h

  pub index-outside : p.features.count ≤ k → feature_at k s at ≡ refused 12
  unfolding feature_at
  index-outside g = rw q (nth-outside k e.features (omega (arith, count)))

  pub index-inside : {l : List EntryFeature} {d : ℕ} → k < p.features.count → list_of k (λ before. feature) s p.features.start ≡ got l d
      → feature_at k s at ≡ feature s d
  unfolding feature_at
  index-inside g r =
      let i = indexed (λ before. feature) s k (entry_listed s at q) (omega (arith, count)) in
      rw q (nth-indexed s k i ∙ ap (feature s) (sym (end_of_lem (sym (rw (← start) at r) ∙ i.skipped))))

  pub index-refused : {m : ℕ} → k < p.features.count → list_of k (λ before. feature) s p.features.start ≡ refused m → feature_at k s at ≡ refused m
  index-refused g r =
      let i = indexed (λ before. feature) s k (entry_listed s at q) (omega (arith, count)) in
      no_answer (sym (rw (← start) at r) ∙ i.skipped)

pub ruleset by_index = (index-outside, index-inside, index-refused)
