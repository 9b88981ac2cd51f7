-- What the writers of entries, handshakes, frames and messages ask, in order, each question with its number if "no"
-- (document 01, "Questions", Writers). Each is asked over all values written before the next one is, and the first one
-- answered "no" gives the refusal. What the contracts of these writers cite is the answer to these lists. The writer of
-- all rows of a table, on which that of Peers stands, has its cases in handshake_entry_write.
use Rattle.std.specs.Prelude.{ℕ, ◌+◌, false, List, [], ◌∷◌, ◌++◌, map, ◌≡◌, leb, length}
use Rattle.std.proofs.Math.Path.{refl}
use Rattle.wire.specs.Bytes.{every}
use Rattle.wire.specs.Output.{Question, ask, asked, written, Written, To, Refused}
use Rattle.wire.proofs.OutputLaws.{AllHold}
use Rattle.vlq.specs.Vlq.{limit}
use Rattle.types.specs.declared.Network.{Network}
use Rattle.handshake.specs.Value.{entry_bytes, handshake_bytes, short_strings, utf8_strings, few_features, lengths_within, entries_asked}
use Rattle.handshake.specs.Tables.{Tables, tables_whole}
use Rattle.handshake.specs.Writes.{entry_at_row, row_inside, entry_written, handshake_at_row, handshake_written, Config, built, built_written}
use Rattle.frame.specs.Frame.{frame_bytes}
use Rattle.frame.specs.Writes.{frame_written}
use Rattle.messages.specs.Value.{body_bytes, message_entries, payloads_within, count_within, code_free, message_asked}
use Rattle.messages.specs.Writes.{MessageWrite, value_of, message_whole, message_inside, message_bytes, message_written}

-- ---- the questions

module _ (out : List ℕ) (at : ℕ) where
  -- a message, as its whole frame
  abbrev pub message_questions : Network → ℕ → MessageWrite → List Question
  message_questions network cap w =
      ask 16 (message_whole w)  -- every row of every table, written or not
      ∷ ask 12 (leb at (length out))  -- the place in the output
      ∷ ask 12 (message_inside w)  -- every written part in the buffer, every written feature row in its table
      ∷ ask 13 (every short_strings (message_entries (value_of w)))  -- agents and names have at most 255 bytes
      ∷ ask 4 (every utf8_strings (message_entries (value_of w)))  -- agents and names are UTF-8
      ∷ ask 15 (every few_features (message_entries (value_of w)))  -- an entry has at most 255 features
      ∷ ask 3 (every lengths_within (message_entries (value_of w)))  -- each feature's length
      ∷ ask 3 (payloads_within (value_of w))  -- each payload's length
      ∷ ask 10 (count_within cap (value_of w))  -- at most 400 ids or payloads, entries at most the cap
      ∷ ask 7 (leb (length (body_bytes (value_of w))) limit)  -- the body
      ∷ ask 15 (code_free (value_of w))  -- an Unknown's code is none of the six
      ∷ ask 14 (leb (at + length (message_bytes network (value_of w))) (length out))  -- room in the output
      ∷ []

  -- row k of a table, written as these bytes
  abbrev pub row_questions : Tables → ℕ → List ℕ → List Question
  row_questions l k bytes =
      ask 16 (tables_whole l)  -- every row of both tables, written or not
      ∷ ask 12 (leb at (length out))  -- the place in the output
      ∷ ask 12 (row_inside l k)  -- row k in its table, its parts in the buffer, its feature rows in their table
      ∷ ask 13 (every short_strings (entry_at_row l k ∷ []))  -- agent and name have at most 255 bytes
      ∷ ask 4 (every utf8_strings (entry_at_row l k ∷ []))  -- agent and name are UTF-8
      ∷ ask 15 (every few_features (entry_at_row l k ∷ []))  -- at most 255 features
      ∷ ask 3 (every lengths_within (entry_at_row l k ∷ []))  -- each feature's length
      ∷ ask 14 (leb (at + length bytes) (length out))  -- room in the output
      ∷ []

  -- an entry, and a timestamp with an entry
  abbrev pub entry_questions : Tables → ℕ → List Question
  entry_questions l k = row_questions l k (entry_bytes (entry_at_row l k))

  abbrev pub handshake_questions : ℕ → Tables → ℕ → List Question
  handshake_questions timestamp l k = row_questions l k (handshake_bytes (handshake_at_row timestamp l k))

  -- `build`, which has no tables: its strings are slices
  abbrev pub built_questions : Config → List Question
  built_questions c =
      ask 12 (leb at (length out))  -- the place in the output
      ∷ ask 13 (every short_strings ((built c).entry ∷ []))  -- agent and name have at most 255 bytes
      ∷ ask 4 (every utf8_strings ((built c).entry ∷ []))  -- agent and name are UTF-8
      ∷ ask 15 (every few_features ((built c).entry ∷ []))  -- at most 255 features: "yes", there are two
      ∷ ask 3 (every lengths_within ((built c).entry ∷ []))  -- each feature's length: "yes", both are short
      ∷ ask 14 (leb (at + length (handshake_bytes (built c))) (length out))  -- room in the output
      ∷ []

  -- a frame of any code
  abbrev pub frame_questions : Network → ℕ → List ℕ → List Question
  frame_questions network code body =
      ask 12 (leb at (length out))  -- the place in the output
      ∷ ask 7 (leb (length body) limit)  -- the body
      ∷ ask 14 (leb (at + length (frame_bytes network code body)) (length out))  -- room in the output
      ∷ []

-- ---- what the writers say is the answer to these questions, and their numbers are these

-- a writer says the number of the first of the questions answered "no", or else `end`
pub record Asks (says : Written) (questions : List Question) (end : ℕ) (numbers : List ℕ) : Type 0 where
  pub answer : says ≡ asked questions (To end)
  pub numbered : map (λ (q : Question). q.number) questions ≡ numbers

module _ (out : List ℕ) (at : ℕ) where
  pub message_order : (network : Network) (cap : ℕ) (w : MessageWrite) → Asks
      (message_written network cap w out at) (message_questions out at network cap w) (at + length (message_bytes network (value_of w)))
      (16 ∷ 12 ∷ 12 ∷ 13 ∷ 4 ∷ 15 ∷ 3 ∷ 3 ∷ 10 ∷ 7 ∷ 15 ∷ 14 ∷ [])
  unfolding message_written written message_asked entries_asked
  message_order network cap w = record { answer = refl; numbered = refl }

  pub entry_order : (l : Tables) (k : ℕ) → Asks
      (entry_written l k out at) (entry_questions out at l k) (at + length (entry_bytes (entry_at_row l k)))
      (16 ∷ 12 ∷ 12 ∷ 13 ∷ 4 ∷ 15 ∷ 3 ∷ 14 ∷ [])
  unfolding entry_written written entries_asked
  entry_order l k = record { answer = refl; numbered = refl }

  pub handshake_order : (timestamp : ℕ) (l : Tables) (k : ℕ) → Asks
      (handshake_written timestamp l k out at) (handshake_questions out at timestamp l k) (at + length (handshake_bytes (handshake_at_row timestamp l k)))
      (16 ∷ 12 ∷ 12 ∷ 13 ∷ 4 ∷ 15 ∷ 3 ∷ 14 ∷ [])
  unfolding handshake_written written entries_asked
  handshake_order timestamp l k = record { answer = refl; numbered = refl }

  pub built_order : (c : Config) → Asks
      (built_written c out at) (built_questions out at c) (at + length (handshake_bytes (built c)))
      (12 ∷ 13 ∷ 4 ∷ 15 ∷ 3 ∷ 14 ∷ [])
  unfolding built_written written entries_asked
  built_order c = record { answer = refl; numbered = refl }

  pub frame_order : (network : Network) (code : ℕ) (body : List ℕ) → Asks
      (frame_written network code body out at) (frame_questions out at network code body) (at + length (frame_bytes network code body))
      (12 ∷ 7 ∷ 14 ∷ [])
  unfolding frame_written written
  frame_order network code body = record { answer = refl; numbered = refl }

-- the answer is the number of the first question answered "no", whatever the later ones say
pub first_no : (before : List Question) (q : Question) (later : List Question) (w : Written) → AllHold before → q.holds ≡ false
    → asked (before ++ (q ∷ later)) w ≡ Refused q.number
unfolding asked
first_no [] q later w h no' = rw no'
first_no (p ∷ before) q later w h no' = rw h.0 (first_no before q later w h.1 no')
