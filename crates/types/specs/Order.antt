-- The order of protocol versions, and the least version that a handshake may have.
use Rattle.std.specs.Prelude.{ℕ, Bool, false, ◌||◌, ◌&&◌, ltb, eqb}
use Rattle.types.specs.declared.Version.{Version}

-- one step of a lexicographic order: a is below b, or they are equal and the rest decides
unfoldable pub then_by : ℕ → ℕ → Bool → Bool
then_by a b rest = ltb a b || (eqb a b && rest)

-- document 01, "Entries and handshakes": by major, minor, patch
unfoldable pub below : Version → Version → Bool
below v w = then_by v.major w.major (then_by v.minor w.minor (then_by v.patch w.patch false))

-- 4.0.100, document 01, "Entries and handshakes"
abbrev pub eip37_min : Version
eip37_min = record { major = 4; minor = 0; patch = 100 }
