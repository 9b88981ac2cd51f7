-- Addresses: the numbers that an address may have, its bytes and what they are read to, each way.
use Rattle.std.specs.Prelude.{ℕ, ◌+◌, ◌-◌, ◌^◌, ◌<◌, Bool, cond, ◌⊎◌, ◌≡◌, length, take, drop}
use Rattle.std.proofs.Common.{arith, inl, inr, ap, ap₂, sym, ◌∙◌, length-append, length-take, length-drop, take-append-drop, take_at, drop_at}
use Rattle.std.proofs.Math.Bool.{true, false}
use mathlib.Core.List.{List, [], ◌∷◌, ◌++◌, append_assoc}
use Rattle.std.proofs.Math.Path.{refl}
use Rattle.std.proofs.Math.Dec.{eqb}
use borrow.Author.Tests.{eqb-true}
use Rattle.wire.specs.Bytes.{big_endian, big_endian_bytes, every}
use Rattle.wire.proofs.BytesLaws.{is_byte, every_take, every_drop, length-big_endian_bytes, big_endian_bytes_lem, bytes-big_endian, big_endian-below}
use Rattle.wire.specs.Reader.{Reader, and_then, byte}
use Rattle.wire.specs.ReadsBack.{ReadsBack}
use Rattle.wire.proofs.ReadsBackLaws.{reads-pure, reads_then, reads-last, reads_byte, reads-part_of}
use Rattle.vlq.specs.Vlq.{vlq_bytes}
use Rattle.vlq.proofs.VlqLaws.{reads-vlq}
use Rattle.types.specs.declared.Address.{Address}
use Rattle.types.specs.declared.Address.TheVariants.{None, V4, V6}
use Rattle.handshake.specs.Entry.{address_of, address, address_if}
use Rattle.handshake.specs.Value.{AddressTyped, address_bytes}

-- ---- an address that was written is read back

-- a length byte, its bytes and a port
reads-address : (l : ℕ) (bytes : List ℕ) (port : ℕ) → length bytes ≡ l - 4 → port < 2 ^ 16
    → ReadsBack address (λ x. x) (l ∷ (bytes ++ vlq_bytes port)) (address_of l bytes port)
unfolding address
reads-address l bytes port e h =
    reads_then {w = l ∷ []} (reads_byte l) (λ l' q. rw q (
    reads_then (reads-part_of (l - 4) bytes e) (λ g b.
    reads-last (reads-vlq port (omega arith)) (λ p r.
    reads-pure _ (ap₂ (λ (x : List ℕ) (n : ℕ). address_of l x n) b (omega arith))))))

pub address_of-v4 : (ip port : ℕ) → ip < 2 ^ 32 → address_of 8 (big_endian_bytes 4 ip) port ≡ V4 ip port
unfolding address_of
address_of-v4 ip port h = ap (λ (n : ℕ). V4 n port) (big_endian_bytes_lem 4 ip (omega arith))

pub address_of-v6 : (high low port : ℕ) → high < 2 ^ 64 → low < 2 ^ 64
    → address_of 20 (big_endian_bytes 8 high ++ big_endian_bytes 8 low) port ≡ V6 high low port
unfolding address_of
address_of-v6 high low port h g =
    let l = length-big_endian_bytes 8 high in
    rw (take_at (big_endian_bytes 8 high) (big_endian_bytes 8 low) 8 l, drop_at (big_endian_bytes 8 high) (big_endian_bytes 8 low) 8 l)
    (ap₂ (λ (m n : ℕ). V6 m n port) (big_endian_bytes_lem 8 high (omega arith)) (big_endian_bytes_lem 8 low (omega arith)))

-- the flag of an address, and the bytes after the flag
flag : Address → ℕ
flag None = 0
flag (V4 ip port) = 1
flag (V6 high low port) = 1

after_flag : Address → List ℕ
after_flag None = []
after_flag (V4 ip port) = 8 ∷ (big_endian_bytes 4 ip ++ vlq_bytes port)
after_flag (V6 high low port) = 20 ∷ ((big_endian_bytes 8 high ++ big_endian_bytes 8 low) ++ vlq_bytes port)

address_flag : (a : Address) → address_bytes a ≡ (flag a ∷ []) ++ after_flag a
unfolding address_bytes flag after_flag
address_flag None = refl
address_flag (V4 ip port) = refl
address_flag (V6 high low port) = rw append_assoc

reads-address_if : (a : Address) → AddressTyped a → ReadsBack (address_if (flag a)) (λ x. x) (after_flag a) a
unfolding address_if flag after_flag AddressTyped
reads-address_if None h = reads-pure None refl
reads-address_if (V4 ip port) h =
    rw (address_of-v4 ip port h.0) at (reads-address 8 (big_endian_bytes 4 ip) port (length-big_endian_bytes 4 ip) h.1)
reads-address_if (V6 high low port) h =
    rw (address_of-v6 high low port h.0 h.1) at
    (reads-address 20 (big_endian_bytes 8 high ++ big_endian_bytes 8 low) port
    (length-append (big_endian_bytes 8 high) (big_endian_bytes 8 low) ∙ ap₂ ◌+◌ (length-big_endian_bytes 8 high) (length-big_endian_bytes 8 low)) h.2)

-- the flag and the address, and what follows them
pub reads-flagged : {B Y : Type 0} {f : Address → Reader B} {see : B → Y} {w : List ℕ} {v : Y} (a : Address) → AddressTyped a
    → ((x : Address) → x ≡ a → ReadsBack (f x) see w v) → ReadsBack (and_then byte (λ flag. and_then (address_if flag) f)) see (address_bytes a ++ w) v
reads-flagged a h rest =
    rw (address_flag a)
    (reads_then {w = flag a ∷ []} (reads_byte (flag a)) (λ n e. rw e (reads_then (reads-address_if a h) rest)))

-- ---- an address made from bytes

number-below : (k : ℕ) (bytes : List ℕ) → every is_byte bytes ≡ true → length bytes ≡ k → big_endian bytes < 256 ^ k
number-below k bytes are e = rw e at (big_endian-below bytes are)

bytes-number : (k : ℕ) (bytes : List ℕ) → every is_byte bytes ≡ true → length bytes ≡ k → big_endian_bytes k (big_endian bytes) ≡ bytes
bytes-number k bytes are e = rw e at (bytes-big_endian bytes are)

module _ (l : ℕ) (bytes : List ℕ) (port : ℕ) (are : every is_byte bytes ≡ true) (size : length bytes ≡ l - 4) where
  first-8 : l ≡ 20 → length (take 8 bytes) ≡ 8
  first-8 e = length-take 8 bytes ∙ omega arith

  last-8 : l ≡ 20 → length (drop 8 bytes) ≡ 8
  last-8 e = length-drop 8 bytes ∙ omega arith

  pub address_of-typed : port < 2 ^ 16 → AddressTyped (address_of l bytes port)
  unfolding address_of AddressTyped
  address_of-typed h = go (eqb l 8) (eqb l 20) refl refl
    where
      go : (t u : Bool) → eqb l 8 ≡ t → eqb l 20 ≡ u
          → AddressTyped (cond t (V4 (big_endian bytes) port) (cond u (V6 (big_endian (take 8 bytes)) (big_endian (drop 8 bytes)) port) None))
      go true u e f = let e' = eqb-true l 8 e in (number-below 4 bytes are (omega arith), h)
      go false true e f =
          let f' = eqb-true l 20 f in (
            number-below 8 (take 8 bytes) (every_take is_byte 8 bytes are) (first-8 f'),
            number-below 8 (drop 8 bytes) (every_drop is_byte 8 bytes are) (last-8 f'),
            h,
          )
      go false false e f = tt

  pub address_bytes-of : (l ≡ 8) ⊎ (l ≡ 20) → address_bytes (address_of l bytes port) ≡ 1 ∷ l ∷ (bytes ++ vlq_bytes port)
  unfolding address_bytes address_of
  address_bytes-of (inl e) = rw (e, bytes-number 4 bytes are (omega arith))
  address_bytes-of (inr e) =
      rw (e, bytes-number 8 (take 8 bytes) (every_take is_byte 8 bytes are) (first-8 e), bytes-number 8 (drop 8 bytes) (every_drop is_byte 8 bytes are) (last-8 e))
      (ap (λ (b : List ℕ). 1 ∷ 20 ∷ b) (sym (append_assoc (take 8 bytes) (drop 8 bytes) (vlq_bytes port)) ∙ rw (take-append-drop 8 bytes)))
