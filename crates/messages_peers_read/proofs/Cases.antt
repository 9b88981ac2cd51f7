-- Document 01, "Questions", Caller: an entry by index, inside and outside, and only once the body has been read.
use Rattle.std.specs.Prelude.{ℕ, ◌+◌, List, [], ◌∷◌, ◌++◌, map, ◌≡◌, refl}
use Rattle.wire.specs.Reader.{Answer, got, refused, fold, list_of}
use Rattle.vlq_utf8.specs.Utf8.{utf8_from, utf8}
use Rattle.vlq.specs.Vlq.{groups, vlq, vlq_length}
use Rattle.vlq.specs.ShortString.{string, short_string}
use Rattle.types.specs.declared.Address.TheVariants.{None}
use Rattle.handshake.specs.Entry.{Entry, version, address_if, entry}
use Rattle.messages.specs.Message.{count}
use Rattle.messages_inventory_read.specs.Parts.{item_by_index}
use Rattle.messages_peers_read.specs.Parts.{entries, entries_start, entry_at}

-- under the cap 64
pub record Case : Type 0 where
  pub index : ℕ
  pub body : List ℕ
  pub answer : Answer Entry

abbrev case : ℕ → List ℕ → Answer Entry → Case
case index body answer = record { index = index; body = body; answer = answer }

-- an entry of 7 bytes: no agent, a version, no name, no address, no features
abbrev bytes : ℕ → List ℕ
bytes major = 0 ∷ major ∷ 0 ∷ 1 ∷ 0 ∷ 0 ∷ 0 ∷ []

abbrev found : ℕ → ℕ → Answer Entry
found major at =
    got
    (record {
      agent = record { start = at + 1; bytes = [] };
      version = record { major = major; minor = 0; patch = 1 };
      name = record { start = at + 5; bytes = [] };
      address = None;
      first = at + 7;
      features = [];
    })
    (at + 7)

unfoldable pub cases : List Case
cases =
    case 0 (0 ∷ []) (refused 12)
    ∷ case 0 (2 ∷ (bytes 5 ++ bytes 6)) (found 5 1)
    ∷ case 1 (2 ∷ (bytes 5 ++ bytes 6)) (found 6 8)
    ∷ case 2 (2 ∷ (bytes 5 ++ bytes 6)) (refused 12)
    -- a body that is refused, whatever the index
    ∷ case 0 (2 ∷ bytes 5) (refused 1)
    ∷ case 9 (2 ∷ bytes 5) (refused 1)
    ∷ case 99 (65 ∷ []) (refused 10)
    ∷ []

pub all-cases : map (λ (c : Case). entry_at 64 c.index c.body) cases ≡ map (λ (c : Case). c.answer) cases
unfolding cases entry_at entries entries_start item_by_index count fold list_of groups vlq vlq_length string short_string utf8_from utf8 version address_if entry
all-cases = refl
