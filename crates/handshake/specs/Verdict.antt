-- What is said of an entry (document 01, "Entries and handshakes"): `validate_peer` and `rest_api_url`.
use Rattle.std.specs.Prelude.{ℕ, ◌+◌, Bool, false, cond, not, ◌&&◌, List, [], ◌∷◌, eqb, leb, length, take}
use Rattle.std.proofs.Math.Option.{Option, none, some}
use Rattle.wire.specs.Bytes.{same_bytes}
use Rattle.wire.specs.Reader.{Answer, got, refused, Segment}
use Rattle.vlq.specs.ShortString.{short_string}
use Rattle.types.specs.declared.Network.{Network}
use Rattle.types.specs.Magic.{magic_of}
use Rattle.types.specs.Order.{below, eip37_min}
use Rattle.handshake.specs.Entry.{EntryFeature, Entry}

-- the first feature with this id
unfoldable pub first_feature : ℕ → List EntryFeature → Option EntryFeature
first_feature id [] = none
first_feature id (f ∷ fs) = cond (eqb f.id id) (some f) (first_feature id fs)

-- a body with at least four bytes, the first four of which aren't the magic
unfoldable pub other_magic : Network → Option EntryFeature → Bool
other_magic network none = false
other_magic network (some f) = leb 4 (length f.body.bytes) && not (same_bytes (take 4 f.body.bytes) (magic_of network))

-- 1 if the version is below 4.0.100; else 2 if the first feature 3 has another magic; else 0
unfoldable pub validate_peer : Network → Entry → ℕ
validate_peer network e = cond (below e.version eip37_min) 1 (cond (other_magic network (first_feature 3 e.features)) 2 0)

-- a string of a body that starts at a place, with its place in the bytes that the body is read from
unfoldable pub string_from : ℕ → Answer Segment → Option Segment
string_from start (got g next) = some (record { start = start + g.start; bytes = g.bytes })
string_from start (refused m) = none

unfoldable pub url_of : Option EntryFeature → Option Segment
url_of none = none
url_of (some f) = string_from f.body.start (short_string f.body.bytes 0)

-- the first feature 4: a length byte and that much UTF-8 within the body; otherwise none
unfoldable pub rest_api_url : Entry → Option Segment
rest_api_url e = url_of (first_feature 4 e.features)
