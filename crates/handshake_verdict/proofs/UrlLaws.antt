-- The URL from the first feature 4, by its places, and from the short string that was read within its body.
use Prim.Native.Nat.{ℕ, ◌+◌, ◌-◌, ◌≤◌}
use native.Mathlib.Omega.{arith}
use mathlib.Core.Bool.{Bool, true, false}
use mathlib.Core.List.{List}
use mathlib.Core.Option.{none}
use Rattle.std.proofs.Common.{Option, None, Some}
use mathlib.Core.Path.{◌≡◌}
use lib.ListN.{length, take, drop}
use Rattle.wire.specs.declared.Part.{Part}
use Rattle.wire.specs.Reader.{got, refused, and_then, Segment, byte, part, guard}
use Rattle.wire.proofs.AnswerLaws.{no_answer, bind-got}
use Rattle.wire.proofs.ReaderLaws.{length_part, part_at}
use Rattle.vlq_utf8.specs.Utf8.{utf8}
use Rattle.vlq.specs.ShortString.{string, short_string}
use Rattle.handshake.specs.Entry.{Entry}
use Rattle.handshake.specs.Verdict.{first_feature, string_from, url_of, rest_api_url}
use Rattle.handshake_read.specs.declared.Feature.{Feature}
use Rattle.handshake_verdict.specs.Answers.{part_if_any, entry_url}
use Rattle.handshake_verdict.specs.Peer.{segment_in}
use Rattle.handshake_verdict.proofs.FoundLaws.{FoundAt, found_at, found_none}

-- a short string starts within the bytes
short_string-inside : (s : List ℕ) (at : ℕ) {g : Segment} {next : ℕ} → short_string s at ≡ got g next → g.start ≤ length s
unfolding short_string string
short_string-inside s at {g} {next} q =
    let a = bind-got (byte s at) (λ n m. and_then (part n) (λ g. guard (utf8 g.bytes) 4 g) s m) q in
    let b = bind-got (part a.value s a.next) (λ g m. guard (utf8 g.bytes) 4 g s m) a.rest in
    let p = part_at a.value s a.next b.answer in
    go (utf8 b.value.bytes) b.value b.next b.rest (omega (arith, p.start, p.inside))
  where
    go : (u : Bool) (h : Segment) (m : ℕ) → guard u 4 h s m ≡ got g next → h.start ≤ length s → g.start ≤ length s
    go true h m q k = let e : h ≡ g = cc in rw (← e) k
    go false h m q k = no_answer q

-- the string within the body p of s
abbrev pub string_in : List ℕ → Part → Option Part
string_in s p = part_if_any (string_from p.start (short_string (segment_in s p).bytes 0))

module _ (s : List ℕ) (p : Part) where
  -- the code's part ends at start + len, so its length is written start + len - start
  abbrev pub body : List ℕ
  body = take (p.start + p.len - p.start) (drop p.start s)

  pub url-start : p.start + p.len ≤ length s → {g : Segment} {next : ℕ} → short_string body 0 ≡ got g next → p.start + g.start ≤ length s
  url-start h q =
      let z : p.start + p.len - p.start ≡ p.len = omega arith in
      omega (arith, rw (z, length_part p.len s p.start h) at (short_string-inside body 0 q))

  pub url-found : {g : Segment} {next : ℕ} → short_string body 0 ≡ got g next → Some (record { start = p.start + g.start; len = length g.bytes }) ≡ string_in s p
  unfolding string_from
  url-found q = let z : p.start + p.len - p.start ≡ p.len = omega arith in rw (rw z at q)

  pub url-refused : {m : ℕ} → short_string body 0 ≡ refused m → None ≡ string_in s p
  unfolding string_from
  url-refused q = let z : p.start + p.len - p.start ≡ p.len = omega arith in rw (rw z at q)

module _ (s : List ℕ) (x : Entry) where
  pub url-at : (f : Feature) → FoundAt s f (first_feature 4 x.features) → string_in s f.body ≡ entry_url x
  unfolding rest_api_url url_of
  url-at f found = rw found.same

  pub url-none : first_feature 4 x.features ≡ none → None ≡ entry_url x
  unfolding rest_api_url url_of
  url-none q = rw q

pub ruleset urls = (found_at, found_none, url-at, url-none)

pub ruleset strings = (url-start, url-found, url-refused)
