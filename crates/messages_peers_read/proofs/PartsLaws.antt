-- Laws of `Parts`: a Peers body is these parts, and the entry by index is the one at that place of the list.
use Rattle.std.specs.Prelude.{ℕ, ◌<◌, List, ◌≡◌, refl, length}
use Rattle.std.proofs.Common.{ap, sym, ◌∙◌}
use Rattle.wire.specs.Reader.{Answer, got, refused, bind, list_of, map_answer}
use Rattle.wire.proofs.AnswerLaws.{bind-got, bind-step}
use Rattle.wire.proofs.ListOfLaws.{listed, Indexed}
use Rattle.handshake.specs.Entry.{Entry, entry}
use Rattle.messages.specs.Message.{peers, count, peers_body}
use Rattle.messages_inventory_read.specs.Parts.{end_of, item_by_index}
use Rattle.messages_inventory_read.proofs.PartsLaws.{count-got, item_of-list}
use Rattle.messages_peers_read.specs.Parts.{entries, entries_start, entry_at, entry_among}

pub entries_start_lem : (cap : ℕ) (s : List ℕ) {n at : ℕ} → count cap s 0 ≡ got n at → entries_start s ≡ at
unfolding entries_start
entries_start_lem cap s q = ap end_of (count-got cap s 0 q).0

pub peers-entries : (cap : ℕ) (s : List ℕ) (at : ℕ) → peers_body cap s at ≡ map_answer peers (entries cap s at)
unfolding peers_body entries map_answer
peers-entries cap s at =
    bind-step (count cap s at)
    (λ n m. bind (list_of n (λ before. entry) s m) (λ l e. got (peers l) e))
    (λ n m. list_of n (λ before. entry) s m)
    (λ l e. got (peers l) e)
    (λ n m. refl)

pub record EntriesRead (cap : ℕ) (s : List ℕ) (l : List Entry) (e : ℕ) : Type 0 where
  pub number : ℕ
  pub counted : count cap s 0 ≡ got number (entries_start s)
  pub taken : list_of number (λ before. entry) s (entries_start s) ≡ got l e

pub entries-read : (cap : ℕ) (s : List ℕ) {l : List Entry} {e : ℕ} → entries cap s 0 ≡ got l e → EntriesRead cap s l e
unfolding entries
entries-read cap s {l} {e} q =
    let a = bind-got (count cap s 0) (λ n m. list_of n (λ before. entry) s m) q in
    let start = entries_start_lem cap s a.answer in
    record { number = a.value; counted = a.answer ∙ ap (got a.value) (sym start); taken = rw start a.rest }

pub entry_at_lem : (cap k : ℕ) (s : List ℕ) {l : List Entry} {e : ℕ} → entries cap s 0 ≡ got l e → k < length l
    → (x : Indexed (λ before. entry) s (entries_start s) k l) × (entry_at cap k s ≡ got x.value x.next)
unfolding entry_at
entry_at_lem cap k s q h =
    let r = entries-read cap s q in
    let t = item_of-list (λ before. entry) k s r.number (entries_start s) r.taken h in
    (t.0, rw q t.1)

-- once the count is read
pub entry_among_lem : (cap k : ℕ) (s : List ℕ) {n at : ℕ} → count cap s 0 ≡ got n at → entry_at cap k s ≡ entry_among n k s at
unfolding entry_at entries entry_among
entry_among_lem cap k s {n} {at} q = rw q (go (list_of n (λ before. entry) s at) refl)
  where
    go : (r : Answer (List Entry)) → list_of n (λ before. entry) s at ≡ r
        → bind r (λ l next. item_by_index (length l) k (λ before. entry) s (entries_start s)) ≡ bind r (λ l next. item_by_index n k (λ before. entry) s at)
    go (got l m) h = rw ((listed (λ before. entry) s n at h).0, entries_start_lem cap s q)
    go (refused m) h = refl
