-- The verdict on an entry: from its version, and from the first feature 3 by its places.
use Prim.Native.Nat.{ℕ, ◌≤◌, ◌<◌}
use mathlib.Core.Bool.{Bool, true, false, not}
use mathlib.Core.List.{List}
use mathlib.Core.Option.{Option, none}
use mathlib.Core.Path.{◌≡◌, ap, sym, ◌∙◌}
use lib.ListN.{length, take, drop}
use lib.Seq.{take-take}
use borrow.Author.Tests.{le-leb, lt-leb}
use Rattle.wire.specs.Bytes.{same_bytes}
use Rattle.wire.proofs.ReaderLaws.{length_part}
use Rattle.types.specs.declared.Version.{Version}
use Rattle.types.specs.declared.Network.{Network}
use Rattle.types.specs.Magic.{magic_of}
use Rattle.types.specs.Order.{below, eip37_min}
use Rattle.handshake.specs.Entry.{EntryFeature, Entry}
use Rattle.handshake.specs.Verdict.{first_feature, other_magic, validate_peer}
use Rattle.handshake_read.specs.declared.Feature.{Feature}
use Rattle.handshake_verdict.proofs.FoundLaws.{FoundAt}

pub below-min : (v : Version) {w : Version} {r b : Bool} → r ≡ below v w → w ≡ eip37_min → r ≡ b → below v eip37_min ≡ b
below-min v e f g = ap (below v) (sym f) ∙ sym e ∙ g

module _ (network : Network) (x : Entry) where
  pub verdict_1 : below x.version eip37_min ≡ true → 1 ≡ validate_peer network x
  unfolding validate_peer
  verdict_1 h = rw h

  pub verdict_2 : below x.version eip37_min ≡ false → other_magic network (first_feature 3 x.features) ≡ true → 2 ≡ validate_peer network x
  unfolding validate_peer
  verdict_2 h q = rw (h, q)

  pub verdict-0 : below x.version eip37_min ≡ false → other_magic network (first_feature 3 x.features) ≡ false → 0 ≡ validate_peer network x
  unfolding validate_peer
  verdict-0 h q = rw (h, q)

module _ (network : Network) {o : Option EntryFeature} where
  pub magic-none : o ≡ none → false ≡ other_magic network o
  unfolding other_magic
  magic-none q = rw q

  module _ (s : List ℕ) (f : Feature) (found : FoundAt s f o) where
    size : length (take f.body.len (drop f.body.start s)) ≡ f.body.len
    size = length_part f.body.len s f.body.start found.inside

    pub magic-short : f.body.len < 4 → false ≡ other_magic network o
    unfolding other_magic
    magic-short k = rw (found.same, size, lt-leb 4 f.body.len k)

    pub magic-asked : {b : Bool} → 4 ≤ f.body.len → b ≡ same_bytes (take 4 (drop f.body.start s)) (magic_of network) → not b ≡ other_magic network o
    unfolding other_magic
    magic-asked k e = rw (found.same, size, le-leb 4 f.body.len k, take-take 4 f.body.len (drop f.body.start s) k, ← e)

pub ruleset verdicts = (below-min, verdict-0, verdict_1, verdict_2)
