-- The cut law of entries and handshakes, and how many bytes each takes at least: one line for each field, by the laws of the readers that a layout is
-- put together from.
use Rattle.std.specs.Prelude.{ℕ, ◌+◌, ◌-◌, Bool, true, ◌≡◌, T, eqb, get_or, take}
use Rattle.std.proofs.Common.{arith, get_or-take}
use Rattle.wire.specs.Stable.{Stable, AtLeast, Local}
use Rattle.wire.proofs.StableLaws.{stable_then, stable_pure, stable_cond, stable_list_of, stable_place, stable_field, stable_byte, stable_part, least-field, least-byte, least-none, least_then}
use Rattle.vlq.proofs.VlqLaws.{stable_vlq, stable_vlq_length, least-vlq}
use Rattle.vlq.specs.ShortString.{short_string}
use Rattle.vlq.proofs.ShortStringLaws.{stable_string, stable_short_string}
use Rattle.types.specs.declared.Version.{Version}
use Rattle.types.specs.declared.Address.TheVariants.{None}
use Rattle.handshake.specs.Entry.{version, address, address_if, feature, entry, handshake}

-- three version bytes, and no other, make a version
local_version : Local {A = Version} 3 (λ s at. record { major = get_or s at 0; minor = get_or s (at + 1) 0; patch = get_or s (at + 2) 0 })
local_version = record {
  same = λ s at k g u.
      let major : get_or (take k s) at 0 ≡ get_or s at 0 = get_or-take k s at 0 (omega arith) in
      let minor : get_or (take k s) (at + 1) 0 ≡ get_or s (at + 1) 0 = get_or-take k s (at + 1) 0 (omega arith) in
      let patch : get_or (take k s) (at + 2) 0 ≡ get_or s (at + 2) 0 = get_or-take k s (at + 2) 0 (omega arith) in
      λ i. record { major = major i; minor = minor i; patch = patch i };
}

-- ---- the cut law

module _ {is_cut : ℕ → Bool} (one : T (is_cut 1)) where
  pub stable_version : Stable is_cut version
  unfolding version
  stable_version = stable_field 1 3 _ one local_version

  pub stable_address : Stable is_cut address
  unfolding address
  stable_address =
      stable_then (stable_byte one) (λ l.
      stable_then (stable_part one (l - 4)) (λ g.
      stable_then (stable_vlq one) (λ port.
      stable_pure _)))

  pub stable_address_if : (flag : ℕ) → Stable is_cut (address_if flag)
  unfolding address_if
  stable_address_if flag = stable_cond (eqb flag 0) (stable_pure None) stable_address

  pub stable_feature : Stable is_cut feature
  unfolding feature
  stable_feature =
      stable_then (stable_byte one) (λ id.
      stable_then (stable_vlq_length one) (λ n.
      stable_then (stable_part one n) (λ body.
      stable_pure (record { id = id; body = body }))))

  pub stable_entry : Stable is_cut entry
  unfolding entry
  stable_entry =
      stable_then (stable_short_string one) (λ agent.
      stable_then stable_version (λ version.
      stable_then (stable_short_string one) (λ name.
      stable_then (stable_byte one) (λ flag.
      stable_then (stable_address_if flag) (λ address.
      stable_then (stable_byte one) (λ count.
      stable_then stable_place (λ first.
      stable_then (stable_list_of count (λ before. stable_feature)) (λ features.
      stable_pure _))))))))

  pub stable_handshake : Stable is_cut handshake
  unfolding handshake
  stable_handshake =
      stable_then (stable_vlq one) (λ timestamp.
      stable_then stable_entry (λ entry.
      stable_pure (record { timestamp = timestamp; entry = entry })))

-- ---- how many bytes at least

-- how much a reader takes is the same whichever refusals count as cuts
abbrev any_cut : ℕ → Bool
any_cut m = true

pub least-short_string : AtLeast 1 short_string
unfolding short_string
least-short_string = least_then {is_cut = any_cut} 1 0 (stable_byte tt) least-byte (λ n. least-none {is_cut = any_cut} (stable_string tt n))

least-version : AtLeast 3 version
unfolding version
least-version = least-field 1 3 _

-- agent 1, version 3, name 1, flag 1, count 1
pub least-entry : AtLeast 7 entry
unfolding entry
least-entry =
    least_then {is_cut = any_cut} 1 6 (stable_short_string tt) least-short_string (λ agent.
    least_then {is_cut = any_cut} 3 3 (stable_version tt) least-version (λ version.
    least_then {is_cut = any_cut} 1 2 (stable_short_string tt) least-short_string (λ name.
    least_then {is_cut = any_cut} 1 1 (stable_byte tt) least-byte (λ flag.
    least_then {is_cut = any_cut} 0 1 (stable_address_if tt flag) (least-none {is_cut = any_cut} (stable_address_if tt flag)) (λ address.
    least_then {is_cut = any_cut} 1 0 (stable_byte tt) least-byte (λ count.
    least-none {is_cut = any_cut}
    (stable_then stable_place (λ first. stable_then (stable_list_of count (λ before. stable_feature tt)) (λ features. stable_pure _)))))))))

-- timestamp 1, entry 7
pub least-handshake : AtLeast 8 handshake
unfolding handshake
least-handshake =
    least_then {is_cut = any_cut} 1 7 (stable_vlq tt) least-vlq (λ timestamp.
    least_then {is_cut = any_cut} 7 0 (stable_entry tt) least-entry (λ entry.
    least-none {is_cut = any_cut} (stable_pure _)))
