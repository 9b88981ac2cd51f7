-- The questions of one row in their order, and its bytes where every answer is "yes".
use Rattle.std.specs.Prelude.{ℕ, ◌+◌, ◌≤◌, ◌<◌, true, false, [], ◌∷◌, ◌≡◌, leb}
use Rattle.std.proofs.Common.{arith}
use Rattle.std.proofs.Math.ListN.{length}
use borrow.Author.Tests.{leb-true, le-leb, lt-leb}
use Rattle.wire.specs.Bytes.{every}
use Rattle.wire.proofs.BytesLaws.{and-true}
use Rattle.wire.specs.Output.{ask, sized, Size, Unsized as Refused}
use Rattle.handshake.specs.declared.EntryRow.{EntryRow}
use Rattle.handshake.specs.Value.{entry_bytes, short_strings, utf8_strings, lengths_within, entries_asked}
use Rattle.handshake.specs.Tables.{Tables, bytes_at, entry_from_row, entry_inside}
use Rattle.handshake.proofs.TablesLaws.{length-bytes_at, parts_inside}
use Rattle.handshake_entry_rows.specs.ValueLaws.{few-count}
use Rattle.handshake_entry_ask.specs.Asked.{row_size}
use Rattle.handshake_entry_ask.specs.AskedLaws.{and_right}
use Rattle.handshake_entry_ask.specs.LengthLaws.{addr, own, length-entry, length-head}

pub short_lengths : (l : Tables) (r : EntryRow) → short_strings (entry_from_row l r) ≡ true
    → (length (bytes_at l.buffer r.agentat r.agentlen) ≤ 255) × (length (bytes_at l.buffer r.nameat r.namelen) ≤ 255)
unfolding short_strings entry_from_row
short_lengths l r h =
    let a = length (bytes_at l.buffer r.agentat r.agentlen) in
    let n = length (bytes_at l.buffer r.nameat r.namelen) in
    let b = and-true (leb a 255) (leb n 255) h in
    (leb-true a 255 b.0, leb-true n 255 b.1)

module _ (l : Tables) (r : EntryRow) where
  pub fails_12 : entry_inside l r ≡ false → Refused 12 ≡ row_size l r
  unfolding row_size sized
  fails_12 e = rw e

  module _ (within : entry_inside l r ≡ true) where
    pub fails_13 : short_strings (entry_from_row l r) ≡ false → Refused 13 ≡ row_size l r
    unfolding row_size sized entries_asked every
    fails_13 e = rw (within, e)

    module _ (short : short_strings (entry_from_row l r) ≡ true) where
      pub fails_4 : utf8_strings (entry_from_row l r) ≡ false → Refused 4 ≡ row_size l r
      unfolding row_size sized entries_asked every
      fails_4 e = rw (within, short, e)

      -- the lengths of agent and name
      agent-length : length (bytes_at l.buffer r.agentat r.agentlen) ≡ r.agentlen
      agent-length = length-bytes_at l.buffer r.agentat r.agentlen (parts_inside l r within).agent

      name-length : length (bytes_at l.buffer r.nameat r.namelen) ≡ r.namelen
      name-length = length-bytes_at l.buffer r.nameat r.namelen (parts_inside l r within).name

      pub short_row : (r.agentlen ≤ 255) × (r.namelen ≤ 255)
      short_row = let s = short_lengths l r short in (omega (arith, s.0, agent-length), omega (arith, s.1, name-length))

      module _ (text : utf8_strings (entry_from_row l r) ≡ true) where
        pub fails_15 : 255 < r.count → Refused 15 ≡ row_size l r
        unfolding row_size sized entries_asked every
        fails_15 h =
            rw (within, short, text, few-count l r, lt-leb r.count 255 h)

        -- 3 is the last one; n bytes stand before the features
        pub last_3 : {s : Size} (n : ℕ) → r.count ≤ 255 → n ≡ 6 + r.agentlen + r.namelen + length (addr l r)
            → s ≡ sized (ask 3 (lengths_within (entry_from_row l r)) ∷ []) (n + length (own l r)) → s ≡ row_size l r
        unfolding row_size sized entries_asked every
        last_3 {s} n h e q =
            let all : n + length (own l r) ≡ length (entry_bytes (entry_from_row l r)) =
            omega (arith, e, agent-length, name-length, length-entry l r, length-head l.buffer r) in
            rw (
              within,
              short,
              text,
              few-count l r,
              le-leb r.count 255 h,
              and_right (lengths_within (entry_from_row l r)),
              ← all,
            )
            q
