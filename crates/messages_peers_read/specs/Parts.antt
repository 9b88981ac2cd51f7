-- The entries of a Peers body, where they start, and an entry by index. That a Peers body is these parts is shown in `PartsLaws`.
use Rattle.std.specs.Prelude.{ℕ, List, length}
use Rattle.wire.specs.Reader.{Answer, Reader, bind, and_then, list_of}
use Rattle.vlq.specs.Vlq.{vlq_length}
use Rattle.handshake.specs.Entry.{Entry, entry}
use Rattle.messages.specs.Message.{count}
use Rattle.messages_inventory_read.specs.Parts.{end_of, item_by_index}

-- count, entries
unfoldable pub entries : ℕ → Reader (List Entry)
entries cap = and_then (count cap) (λ n. list_of n (λ before. entry))

-- where the first entry stands: after the count
unfoldable pub entries_start : List ℕ → ℕ
entries_start s = end_of (vlq_length s 0)

-- an entry by index, once the body has been read without refusal
unfoldable pub entry_at : ℕ → ℕ → List ℕ → Answer Entry
entry_at cap index s = bind (entries cap s 0) (λ l next. item_by_index (length l) index (λ before. entry) s (entries_start s))

-- ---- Only for laws, proofs and private functions: no public contract and no theorem cites what follows.

-- an entry by index, from the place of the first of n entries on
unfoldable pub entry_among : ℕ → ℕ → Reader Entry
entry_among n index s at = bind (list_of n (λ before. entry) s at) (λ l next. item_by_index n index (λ before. entry) s at)
