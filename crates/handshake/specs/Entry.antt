-- Entries and handshakes as they are read (document 01, "Entries and handshakes"): the layouts field by field in byte order.
-- Laws stand in `EntryLaws`; what the code gives of a reading stands in `Answers`.
use Rattle.std.specs.Prelude.{ℕ, ◌+◌, ◌-◌, ◌%◌, cond, List, eqb, get_or, take, drop}
use Rattle.wire.specs.Bytes.{big_endian}
use Rattle.wire.specs.Reader.{Reader, pure, and_then, place, field, byte, Segment, part, list_of}
use Rattle.vlq.specs.Vlq.{vlq, vlq_length}
use Rattle.vlq.specs.ShortString.{short_string}
use Rattle.types.specs.declared.Version.{Version}
use Rattle.types.specs.declared.Address.{Address}
use Rattle.types.specs.declared.Address.TheVariants.{None, V4, V6}

-- ---- an entry

-- three version bytes
unfoldable pub version : Reader Version
version = field 1 3 (λ s at. record { major = get_or s at 0; minor = get_or s (at + 1) 0; patch = get_or s (at + 2) 0 })

-- the address length byte L of the two kinds of address
abbrev pub ipv4_length : ℕ
ipv4_length = 8

abbrev pub ipv6_length : ℕ
ipv6_length = 20

-- a port is below this
abbrev pub port_count : ℕ
port_count = 65536

-- L is 8: IPv4; 20: IPv6; any other: no address
unfoldable pub address_of : ℕ → List ℕ → ℕ → Address
address_of l bytes port =
    cond (eqb l ipv4_length) (V4 (big_endian bytes) port)
    (cond (eqb l ipv6_length) (V6 (big_endian (take 8 bytes)) (big_endian (drop 8 bytes)) port)
    None)

-- a length byte L; L - 4 bytes, none if L is below 4; a port VLQ kept modulo 65,536
unfoldable pub address : Reader Address
address =
    and_then byte (λ l.
    and_then (part (l - 4)) (λ g.
    and_then vlq (λ port.
    pure (address_of l g.bytes (port % port_count)))))

-- an address if the flag isn't 0
unfoldable pub address_if : ℕ → Reader Address
address_if flag = cond (eqb flag 0) (pure None) address

pub record EntryFeature : Type 0 where
  pub id : ℕ
  pub body : Segment

-- an id byte, a length VLQ under the limit, and the body
unfoldable pub feature : Reader EntryFeature
feature =
    and_then byte (λ id.
    and_then vlq_length (λ n.
    and_then (part n) (λ body.
    pure (record { id = id; body = body }))))

-- `first` is the place of the first feature
pub record Entry : Type 0 where
  pub agent : Segment
  pub version : Version
  pub name : Segment
  pub address : Address
  pub first : ℕ
  pub features : List EntryFeature

-- agent, three version bytes, name, an address flag byte, an address if the flag isn't 0, a feature count byte, the features
unfoldable pub entry : Reader Entry
entry =
    and_then short_string (λ agent.
    and_then version (λ version.
    and_then short_string (λ name.
    and_then byte (λ flag.
    and_then (address_if flag) (λ address.
    and_then byte (λ count.
    and_then place (λ first.
    and_then (list_of count (λ before. feature)) (λ features.
    pure (record { agent = agent; version = version; name = name; address = address; first = first; features = features })))))))))

-- ---- a handshake

pub record EntryHandshake : Type 0 where
  pub timestamp : ℕ
  pub entry : Entry

-- a timestamp VLQ and an entry
unfoldable pub handshake : Reader EntryHandshake
handshake = and_then vlq (λ timestamp. and_then entry (λ entry. pure (record { timestamp = timestamp; entry = entry })))
