-- Laws of `Parts`: an entry is its head and then its features; of the features that were read, the one with an index is what is read after those
-- before it.
use Rattle.std.specs.Prelude.{ℕ, zero, suc, ◌+◌, ◌≤◌, ◌<◌, List, [], ◌∷◌, ◌++◌, ◌≡◌, refl, length}
use Rattle.std.proofs.Common.{arith, ap, sym, ◌∙◌}
use Rattle.wire.specs.Reader.{Answer, got, refused, bind, pure, and_then, place, byte, Segment, list_of}
use Rattle.wire.proofs.AnswerLaws.{bind-got, bind-step, bind-twice}
use Rattle.wire.proofs.ListOfLaws.{Listed, listed, Indexed, indexed}
use Rattle.vlq.specs.ShortString.{short_string}
use Rattle.types.specs.declared.Version.{Version}
use Rattle.types.specs.declared.Address.{Address}
use Rattle.handshake.specs.Entry.{version, address_if, EntryFeature, feature, Entry, entry}
use Rattle.handshake.proofs.PlacesLaws.{gives-feature, gives-entry}
use Rattle.handshake_address_read.specs.DeclaredAddress.{declared_address}
use Rattle.handshake_read.specs.Parts.{EntryHead, head, EntryFeatures, features, nth, feature_at}

-- ---- an entry is its head and then its features

abbrev listing : ℕ → List EntryFeature → EntryFeatures
listing n l = record { first = n; features = l }

abbrev pub entry_of : EntryHead → EntryFeatures → Entry
entry_of h l = record { agent = h.agent; version = h.version; name = h.name; address = h.address; first = l.first; features = l.features }

module _ (s : List ℕ) where
  abbrev head_only : Segment → Version → Segment → Address → EntryHead
  head_only agent v name address = record { agent = agent; version = v; name = name; address = address }

  -- the features after a head, and the entry
  abbrev after : EntryHead → ℕ → Answer Entry
  after h = and_then features (λ l. pure (entry_of h l)) s

  abbrev features_then : EntryHead → ℕ → Answer Entry
  features_then h =
      and_then byte (λ count. and_then place (λ first. and_then (list_of count (λ before. feature)) (λ l. pure (entry_of h (listing first l))))) s

  abbrev address_then : Segment → Version → Segment → ℕ → Answer Entry
  address_then agent v name at = bind (byte s at) (λ flag n. bind (address_if flag s n) (λ address m. features_then (head_only agent v name address) m))

  abbrev address_only : Segment → Version → Segment → ℕ → Answer EntryHead
  address_only agent v name at = bind (bind (byte s at) (λ flag n. address_if flag s n)) (λ address m. got (head_only agent v name address) m)

  abbrev name_then : Segment → Version → ℕ → Answer Entry
  name_then agent v at = bind (short_string s at) (λ name n. address_then agent v name n)

  abbrev name_only : Segment → Version → ℕ → Answer EntryHead
  name_only agent v at = bind (short_string s at) (λ name n. address_only agent v name n)

  abbrev version_then : Segment → ℕ → Answer Entry
  version_then agent at = bind (version s at) (λ v n. name_then agent v n)

  abbrev version_only : Segment → ℕ → Answer EntryHead
  version_only agent at = bind (version s at) (λ v n. name_only agent v n)

  features_then_lem : (h : EntryHead) (at : ℕ) → features_then h at ≡ after h at
  unfolding features
  features_then_lem h at =
      bind-step (byte s at)
      (λ count n. bind (list_of count (λ before. feature) s n) (λ l m. got (entry_of h (listing n l)) m))
      (λ count n. bind (list_of count (λ before. feature) s n) (λ l m. got (listing n l) m))
      (λ l m. got (entry_of h l) m)
      (λ count n.
      bind-step (list_of count (λ before. feature) s n)
      (λ l m. got (entry_of h (listing n l)) m)
      (λ l m. got (listing n l) m)
      (λ l m. got (entry_of h l) m)
      (λ l m. refl))

  pub entry_parts_lem : (at : ℕ) → entry s at ≡ and_then head (λ h. and_then features (λ l. pure (entry_of h l))) s at
  unfolding entry head declared_address
  entry_parts_lem at =
      bind-step (short_string s at) version_then version_only after (λ agent n.
      bind-step (version s n) (name_then agent) (name_only agent) after (λ v n.
      bind-step (short_string s n) (address_then agent v) (address_only agent v) after (λ name n.
      bind-twice (byte s n) (λ flag n. bind (address_if flag s n) (λ address m. features_then (head_only agent v name address) m)) (λ flag n. address_if flag s n)
      (λ address m. got (head_only agent v name address) m) after (λ flag n.
      bind-step (address_if flag s n) (λ address m. features_then (head_only agent v name address) m)
      (λ address m. got (head_only agent v name address) m) after (λ address n.
      features_then_lem (head_only agent v name address) n)))))

-- ---- where an entry starts: at its agent's length byte

pub entry-agent : (s : List ℕ) (at : ℕ) {e : Entry} {next : ℕ} → entry s at ≡ got e next → e.agent.start ≡ at + 1
entry-agent s at {e} {next} q = (gives-entry.holds e next q).0

-- ---- the features that were read: from the place of the first, they are read again

features-read : (s : List ℕ) (at : ℕ) {l : EntryFeatures} {e : ℕ} → features s at ≡ got l e
    → list_of (length l.features) (λ before. feature) s l.first ≡ got l.features e
unfolding features
features-read s at {l} {e} q =
    let a = bind-got (byte s at) (λ count n. bind (list_of count (λ before. feature) s n) (λ l m. got (listing n l) m)) q in
    let b = bind-got (list_of a.value (λ before. feature) s a.next) (λ l m. got (listing a.next l) m) a.rest in
    go a.next b.value b.rest (rw (listed (λ before. feature) s a.value a.next b.answer).0 b.answer)
  where
    go : (n : ℕ) (fs : List EntryFeature) {m : ℕ} → got (listing n fs) m ≡ got l e → list_of (length fs) (λ before. feature) s n ≡ got fs m
        → list_of (length l.features) (λ before. feature) s l.first ≡ got l.features e
    go n fs {m} q h =
        let u : listing n fs ≡ l = cc in
        let v : m ≡ e = cc in
        rw (← u, ← v) h

pub entry_read : (s : List ℕ) (at : ℕ) {e : Entry} {next : ℕ} → entry s at ≡ got e next
    → list_of (length e.features) (λ before. feature) s e.first ≡ got e.features next
entry_read s at {e} {next} q =
    let a = bind-got (head s at) (λ h n. bind (features s n) (λ l m. got (entry_of h l) m)) (sym (entry_parts_lem s at) ∙ q) in
    let b = bind-got (features s a.next) (λ l m. got (entry_of a.value l) m) a.rest in
    go (entry_of a.value b.value) b.rest (features-read s a.next b.answer)
  where
    go : (d : Entry) {m : ℕ} → got d m ≡ got e next → list_of (length d.features) (λ before. feature) s d.first ≡ got d.features m
        → list_of (length e.features) (λ before. feature) s e.first ≡ got e.features next
    go d {m} q h =
        let u : d ≡ e = cc in
        let v : m ≡ next = cc in
        rw (← u, ← v) h

pub entry_listed : (s : List ℕ) (at : ℕ) {e : Entry} {next : ℕ} → entry s at ≡ got e next → Listed (λ before. feature) s [] e.first e.features next
entry_listed s at {e} q = (listed (λ before. feature) s (length e.features) e.first (entry_read s at q)).1

-- the feature with an index inside is read after those before it
nth-among : (before : List EntryFeature) (f : EntryFeature) (rest : List EntryFeature)
    → nth (length before) (before ++ (f ∷ rest)) ≡ got f (f.body.start + length f.body.bytes)
unfolding nth
nth-among [] f rest = refl
nth-among (g ∷ before) f rest = nth-among before f rest

pub nth-indexed : (s : List ℕ) (k : ℕ) {at : ℕ} {l : List EntryFeature} (i : Indexed (λ before. feature) s at k l) → nth k l ≡ feature s i.from
nth-indexed s k i =
    ap (nth k) i.all
    ∙ ap (λ (k : ℕ). nth k (i.before ++ (i.value ∷ i.rest))) (sym i.counted)
    ∙ nth-among i.before i.value i.rest
    ∙ ap (got i.value) (gives-feature.holds i.value i.next i.read).1
    ∙ sym i.read

-- by index: the feature at that place of the list that the entry is read to
pub feature_at_lem : (k : ℕ) (s : List ℕ) (at : ℕ) {e : Entry} {next : ℕ} → entry s at ≡ got e next → k < length e.features
    → (x : Indexed (λ before. feature) s e.first k e.features) × (feature_at k s at ≡ got x.value x.next)
unfolding feature_at
feature_at_lem k s at q h =
    let x = indexed (λ before. feature) s k (entry_listed s at q) h in
    (x, rw q (nth-indexed s k x ∙ x.read))

pub nth-outside : (k : ℕ) (l : List EntryFeature) → length l ≤ k → nth k l ≡ refused 12
unfolding nth
nth-outside k [] h = refl
nth-outside zero (f ∷ l) h = absurd (omega arith)
nth-outside (suc k) (f ∷ l) h = nth-outside k l (omega arith)
