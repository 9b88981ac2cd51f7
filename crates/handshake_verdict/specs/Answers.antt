-- What is given of an entry: its URL by its place, and the first feature with an id by its places; and what a verdict means.
use Rattle.std.specs.Prelude.{ℕ, List, Option, None, Some, Result, Ok, Err}
use Rattle.std.proofs.Math.Option as Spec
use Rattle.wire.specs.Reader.{Answer, got, refused, Segment, part_of}
use Rattle.wire.specs.declared.Part.{Part}
use Rattle.wire.specs.Refusals.{number}
use Rattle.wire.specs.declared.Refusal.{Refusal}
use Rattle.vlq.specs.declared.Cursor.{Cursor}
use Rattle.types.specs.declared.Network.{Network}
use Rattle.handshake.specs.Entry.{EntryFeature, Entry, EntryHandshake}
use Rattle.handshake.specs.Verdict.{first_feature, validate_peer, rest_api_url}
use Rattle.handshake_read.specs.Answers.{feature_of}
use Rattle.handshake_read.specs.declared.Feature.{Feature}
use Rattle.handshake_verdict.specs.declared.Verdict.{Verdict}
use Rattle.handshake_verdict.specs.declared.Verdict.TheVariants.{Accepted, OldVersion, OtherMagic}

-- ---- what is given of a reading

abbrev pub part_if_any : Spec.Option Segment → Option Part
part_if_any Spec.none = None
part_if_any (Spec.some g) = Some (part_of g)

abbrev pub feature_if_any : Spec.Option EntryFeature → Option Feature
feature_if_any Spec.none = None
feature_if_any (Spec.some f) = Some (feature_of f)

abbrev pub handshake_verdict : Network → EntryHandshake → ℕ
handshake_verdict network h = validate_peer network h.entry

abbrev pub entry_url : Entry → Option Part
entry_url e = part_if_any (rest_api_url e)

-- of features, the first with an id
abbrev pub first_in : ℕ → List EntryFeature → Option Feature
first_in id l = feature_if_any (first_feature id l)

-- ---- what a verdict means

abbrev pub verdict_number : Verdict → ℕ
verdict_number Accepted = 0
verdict_number OldVersion = 1
verdict_number OtherMagic = 2

abbrev pub verdict_answer : Result (Verdict × Cursor) Refusal → Answer ℕ
verdict_answer (Ok (v, c)) = got (verdict_number v) c.at
verdict_answer (Err m) = refused (number m)
