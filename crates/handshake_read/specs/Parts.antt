-- A feature by index; and an entry in two parts, before its features and these. That the two parts are an entry is shown in `PartsLaws`.
use Rattle.std.specs.Prelude.{ℕ, zero, suc, ◌+◌, List, [], ◌∷◌, length}
use Rattle.wire.specs.Reader.{Answer, got, refused, Reader, bind, pure, and_then, place, byte, Segment, list_of}
use Rattle.vlq.specs.ShortString.{short_string}
use Rattle.types.specs.declared.Version.{Version}
use Rattle.types.specs.declared.Address.{Address}
use Rattle.handshake.specs.Entry.{version, EntryFeature, feature, entry}
use Rattle.handshake_address_read.specs.DeclaredAddress.{declared_address}

-- the feature with this index, and the place where its body ends
-- Is the index inside? 12
unfoldable pub nth : ℕ → List EntryFeature → Answer EntryFeature
nth index [] = refused 12
nth zero (f ∷ fs) = got f (f.body.start + length f.body.bytes)
nth (suc index) (f ∷ fs) = nth index fs

-- a feature of the entry at a place, once the entry has been read without refusal
unfoldable pub feature_at : ℕ → Reader EntryFeature
feature_at index s at = bind (entry s at) (λ e next. nth index e.features)

-- ---- Only for laws, proofs and private functions: no public contract and no theorem cites what follows.

pub record EntryHead : Type 0 where
  pub agent : Segment
  pub version : Version
  pub name : Segment
  pub address : Address

-- agent, three version bytes, name, the declared address
unfoldable pub head : Reader EntryHead
head =
    and_then short_string (λ agent.
    and_then version (λ version.
    and_then short_string (λ name.
    and_then declared_address (λ address.
    pure (record { agent = agent; version = version; name = name; address = address })))))

pub record EntryFeatures : Type 0 where
  pub first : ℕ
  pub features : List EntryFeature

-- a feature count byte, the features
unfoldable pub features : Reader EntryFeatures
features =
    and_then byte (λ count.
    and_then place (λ first.
    and_then (list_of count (λ before. feature)) (λ features.
    pure (record { first = first; features = features }))))
