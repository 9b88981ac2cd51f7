-- Entries as a writer is given them: tables of u32 beside a lent buffer (document 01, "Questions", the paragraph on tables). What the rows mean by
-- value, and the questions asked of tables, 16 and 12. From 13 on the questions are those of the values.
use Rattle.std.specs.Prelude.{ℕ, zero, suc, ◌+◌, ◌-◌, ◌*◌, ◌/◌, ◌%◌, Bool, ◌&&◌, ◌||◌, List, [], ◌∷◌, map, eqb, leb, ltb, length, get_or, take, drop}
use Rattle.wire.specs.Bytes.{every}
use Rattle.handshake.specs.Entry.{ipv4_length, ipv6_length, port_count, address_of}
use Rattle.handshake.specs.Value.{FeatureValue, EntryValue}
use Rattle.handshake.specs.declared.FeatureRow.{FeatureRow}
use Rattle.handshake.specs.declared.EntryRow.{EntryRow}

-- ---- rows

-- what f gives at the n numbers from i on
unfoldable pub rows : {A : Type 0} → (ℕ → A) → ℕ → ℕ → List A
rows f i zero = []
rows f i (suc n) = f i ∷ rows f (i + 1) n

-- how many numbers a row of the feature table has, and one of the entry table
abbrev pub feature_row_size : ℕ
feature_row_size = 3

abbrev pub entry_row_size : ℕ
entry_row_size = 12

-- a feature's id, place, length
abbrev pub feature_row : List ℕ → ℕ → FeatureRow
feature_row t k = record { id = get_or t (feature_row_size * k) 0; at = get_or t (feature_row_size * k + 1) 0; len = get_or t (feature_row_size * k + 2) 0 }

-- an entry's agent place and length, three version numbers, name place and length, address length byte, address place, port, first feature row, row count
abbrev pub entry_row : List ℕ → ℕ → EntryRow
entry_row t k =
    record {
      agentat = get_or t (entry_row_size * k) 0;
      agentlen = get_or t (entry_row_size * k + 1) 0;
      major = get_or t (entry_row_size * k + 2) 0;
      minor = get_or t (entry_row_size * k + 3) 0;
      patch = get_or t (entry_row_size * k + 4) 0;
      nameat = get_or t (entry_row_size * k + 5) 0;
      namelen = get_or t (entry_row_size * k + 6) 0;
      addrlen = get_or t (entry_row_size * k + 7) 0;
      addrat = get_or t (entry_row_size * k + 8) 0;
      port = get_or t (entry_row_size * k + 9) 0;
      first = get_or t (entry_row_size * k + 10) 0;
      count = get_or t (entry_row_size * k + 11) 0;
    }

-- the tables and the buffer of one call
pub record Tables : Type 0 where
  pub entries : List ℕ
  pub features : List ℕ
  pub buffer : List ℕ

abbrev pub tables : List ℕ → List ℕ → List ℕ → Tables
tables entries features buffer = record { entries = entries; features = features; buffer = buffer }

abbrev pub entry_rows : Tables → List EntryRow
entry_rows ts = rows (entry_row ts.entries) 0 (length ts.entries / entry_row_size)

abbrev pub feature_rows : Tables → List FeatureRow
feature_rows ts = rows (feature_row ts.features) 0 (length ts.features / feature_row_size)

-- the feature rows that an entry's row names
abbrev pub own_rows : Tables → EntryRow → List FeatureRow
own_rows ts r = rows (feature_row ts.features) r.first r.count

-- ---- what the rows mean

-- n bytes of the buffer from a place on
abbrev pub bytes_at : List ℕ → ℕ → ℕ → List ℕ
bytes_at buffer at n = take n (drop at buffer)

unfoldable pub feature_from_row : List ℕ → FeatureRow → FeatureValue
feature_from_row buffer f = record { id = f.id; body = bytes_at buffer f.at f.len }

-- with L = 0 there is no address, and the port doesn't count
unfoldable pub entry_from_row : Tables → EntryRow → EntryValue
entry_from_row ts r =
    record {
      agent = bytes_at ts.buffer r.agentat r.agentlen;
      version = record { major = r.major; minor = r.minor; patch = r.patch };
      name = bytes_at ts.buffer r.nameat r.namelen;
      address = address_of r.addrlen (bytes_at ts.buffer r.addrat (r.addrlen - 4)) r.port;
      features = map (feature_from_row ts.buffer) (own_rows ts r);
    }

unfoldable pub entries_of : Tables → List EntryValue
entries_of ts = map (entry_from_row ts) (entry_rows ts)

-- ---- 16: has each table whole rows, with feature ids and versions being bytes, ports below 65,536 and address lengths 0, 8 or 20?

unfoldable pub whole_rows : ℕ → List ℕ → Bool
whole_rows n t = eqb (length t % n) 0

unfoldable pub feature_numbers : FeatureRow → Bool
feature_numbers f = ltb f.id 256

unfoldable pub entry_numbers : EntryRow → Bool
entry_numbers r =
    ltb r.major 256
    && (ltb r.minor 256
    && (ltb r.patch 256
    && (ltb r.port port_count
    && (eqb r.addrlen 0 || (eqb r.addrlen ipv4_length || eqb r.addrlen ipv6_length)))))

-- over every row of both tables, written or not
unfoldable pub tables_whole : Tables → Bool
tables_whole ts =
    whole_rows entry_row_size ts.entries
    && (whole_rows feature_row_size ts.features
    && (every entry_numbers (entry_rows ts)
    && every feature_numbers (feature_rows ts)))

-- ---- 12: is each written part, and each written row, inside?

unfoldable pub inside : List ℕ → ℕ → ℕ → Bool
inside buffer at n = leb (at + n) (length buffer)

unfoldable pub feature_inside : List ℕ → FeatureRow → Bool
feature_inside buffer f = inside buffer f.at f.len

unfoldable pub entry_inside : Tables → EntryRow → Bool
entry_inside ts r =
    inside ts.buffer r.agentat r.agentlen
    && (inside ts.buffer r.nameat r.namelen
    && ((eqb r.addrlen 0 || inside ts.buffer r.addrat (r.addrlen - 4))
    && (leb (r.first + r.count) (length ts.features / feature_row_size)
    && every (feature_inside ts.buffer) (own_rows ts r))))
