-- What was found of the features is the definition's first feature with the id, with its bytes; and the law of the loop that finds it.
use Prim.Native.Nat.{ℕ, zero, suc, ◌+◌, ◌-◌, ◌≤◌, ◌<◌}
use native.Mathlib.Nat.{sub-zero}
use native.Mathlib.Omega.{arith}
use mathlib.Core.Bool.{Bool, true, false, cond}
use mathlib.Core.List.{List}
use mathlib.Core.Option.{Option, none, some}
use Rattle.std.proofs.Common.{None, Some}
use mathlib.Core.Path.{◌≡◌, refl, sym, ◌∙◌}
use lib.Dec.{eqb}
use lib.ListN.{length}
use Rattle.wire.specs.Bytes as Bytes
use Rattle.wire.specs.Bytes.{Each, more}
use Rattle.wire.specs.Reader.{Answer, got, refused}
use Rattle.wire.specs.ReadsBack.{Placed}
use Rattle.handshake.specs.Entry.{EntryFeature, feature}
use Rattle.handshake.proofs.PlacesLaws.{gives-feature}
use Rattle.handshake.specs.Verdict.{first_feature}
use Rattle.handshake_read.specs.Answers.{feature_of}
use Rattle.handshake_read.specs.declared.Feature.{Feature}
use Rattle.handshake_verdict.specs.Answers.{feature_if_any, first_in}
use Rattle.handshake_verdict.specs.Peer.{segment_in, features_then, features_from}

-- ---- the feature that was found

each_placed : (s : List ℕ) (n at : ℕ) → Each (λ (f : EntryFeature). Placed s f.body) (features_from n s at)
unfolding features_from
each_placed s zero at = Bytes.none
each_placed s (suc n) at = go (feature s at) refl (λ next. each_placed s n next)
  where
    go : (r : Answer EntryFeature) → feature s at ≡ r → ((next : ℕ) → Each (λ (f : EntryFeature). Placed s f.body) (features_from n s next))
        → Each (λ (f : EntryFeature). Placed s f.body) (features_then r (features_from n s))
    go (got f next) q rest = more (gives-feature.holds f next q).0 (rest next)
    go (refused m) q rest = Bytes.none

of_first_lem : {P : EntryFeature → Type 0} (id : ℕ) {l : List EntryFeature} → Each P l → {f : EntryFeature} → first_feature id l ≡ some f → P f
unfolding first_feature
of_first_lem id Bytes.none q = let z : ◌≡◌ {A = ℕ} 0 1 = cc in absurd (omega arith)
of_first_lem {P} id (more {a = g} {l = l} p rest) {f} q = go (eqb g.id id) q (λ r. of_first_lem id rest r)
  where
    go : (b : Bool) → cond b (some g) (first_feature id l) ≡ some f → (first_feature id l ≡ some f → P f) → P f
    go true q k = let u : g ≡ f = cc in rw (← u) p
    go false q k = k q

-- a feature by its places, with the bytes of its body
abbrev pub feature_in : List ℕ → Feature → EntryFeature
feature_in s f = record { id = f.id; body = segment_in s f.body }

-- f by its places is the first feature o
pub record FoundAt (s : List ℕ) (f : Feature) (o : Option EntryFeature) : Type 0 where
  pub inside : f.body.start + f.body.len ≤ length s
  pub same : o ≡ some (feature_in s f)

pub found_at : (s : List ℕ) (id n at : ℕ) {f : Feature} → Some f ≡ first_in id (features_from n s at) → FoundAt s f (first_feature id (features_from n s at))
found_at s id n at {f} h = go (first_feature id (features_from n s at)) refl h
  where
    go : (o : Option EntryFeature) → first_feature id (features_from n s at) ≡ o → Some f ≡ feature_if_any o → FoundAt s f o
    go none p h = let z : ◌≡◌ {A = ℕ} 0 1 = cc in absurd (omega arith)
    go (some g) p h =
        let t = of_first_lem id (each_placed s n at) p in
        let u : feature_of g ≡ f = cc in
        let b = t.bytes in
        rw (← u) (record { inside = t.within; same = λ i. some (record { id = g.id; body = record { start = g.body.start; bytes = sym b i } }) })

pub found_none : (o : Option EntryFeature) → None ≡ feature_if_any o → o ≡ none
found_none none h = refl
found_none (some g) h = let z : ◌≡◌ {A = ℕ} 0 1 = cc in absurd (omega arith)

-- ---- the loop

-- i of the n features are read, none of them with the id
pub record NoneSoFar (id : ℕ) (s : List ℕ) (n at₀ at i : ℕ) : Type 0 where
  pub within : i ≤ n
  pub same : first_in id (features_from n s at₀) ≡ first_in id (features_from (n - i) s at)

pub none-start : (id : ℕ) (s : List ℕ) (n at : ℕ) → NoneSoFar id s n at at 0
none-start id s n at = record { within = omega arith; same = rw sub-zero }

module _ {id : ℕ} {s : List ℕ} {n at₀ at i : ℕ} (inv : NoneSoFar id s n at₀ at i) where
  one_less : i < n → n - i ≡ suc (n - (i + 1))
  one_less h = omega arith

  module _ {g : EntryFeature} {f : Feature} {next : ℕ} (h : i < n) (q : feature s at ≡ got g next) (e : feature_of g ≡ f) where
    pub none_again : eqb f.id id ≡ false → NoneSoFar id s n at₀ next (i + 1)
    unfolding features_from first_feature
    none_again k = record {
      within = omega arith;
      same =
          let t : first_in id (features_from (suc (n - (i + 1))) s at) ≡ first_in id (features_from (n - (i + 1)) s next) = rw (q, rw (← e) at k) in
          inv.same ∙ rw (one_less h) t;
    }

    pub first-here : eqb f.id id ≡ true → Some f ≡ first_in id (features_from n s at₀)
    unfolding features_from first_feature
    first-here k =
        let t : first_in id (features_from (suc (n - (i + 1))) s at) ≡ Some f = rw (q, rw (← e) at k, e) in
        sym (inv.same ∙ rw (one_less h) t)

  pub none-refused : {m : ℕ} → i < n → feature s at ≡ refused m → None ≡ first_in id (features_from n s at₀)
  unfolding features_from first_feature
  none-refused h q =
      let t : first_in id (features_from (suc (n - (i + 1))) s at) ≡ None = rw q in
      sym (inv.same ∙ rw (one_less h) t)

  pub none_end : n ≤ i → None ≡ first_in id (features_from n s at₀)
  unfolding features_from first_feature
  none_end h = let z : n - i ≡ 0 = omega arith in sym (inv.same ∙ rw z)
