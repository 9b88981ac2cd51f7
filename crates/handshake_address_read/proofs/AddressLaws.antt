-- An address from the numbers of its bytes, and from the part that was read.
use Prim.Native.Nat.{ℕ, ◌+◌, ◌-◌, ◌≤◌}
use native.Mathlib.Omega.{arith}
use mathlib.Core.List.{List}
use mathlib.Core.Path.{◌≡◌, ap, sym, ◌∙◌}
use lib.ListN.{length, take, drop, length-take, length-drop}
use lib.Seq.{take-take, take-add, drop-drop, drop_at}
use borrow.Author.Tests.{ne_eqb}
use Rattle.wire.specs.Bytes.{big_endian}
use Rattle.wire.specs.declared.Part.{Part}
use Rattle.wire.specs.Reader.{got, Segment, part, part_of}
use Rattle.wire.proofs.ReaderLaws.{part_at}
use Rattle.types.specs.declared.Address.{Address}
use Rattle.types.specs.declared.Address.TheVariants.{None, V4, V6}
use Rattle.handshake.specs.Entry.{address_of}

module _ (l : ℕ) (s : List ℕ) (at port : ℕ) where
  pub address-v4 : (x : ℕ) → l ≡ 8 → x ≡ big_endian (take 4 (drop at s)) → V4 x port ≡ address_of l (take (l - 4) (drop at s)) port
  unfolding address_of
  address-v4 x e h = rw (e, h)

  halves : at + 16 ≤ length s → drop 8 (take 16 (drop at s)) ≡ take 8 (drop (at + 8) s)
  halves h =
      ap (λ (k : List ℕ). drop 8 k) (take-add 8 8 (drop at s))
      ∙ drop_at (take 8 (drop at s)) (take 8 (drop 8 (drop at s))) 8 (simp (length-take, length-drop) (omega arith))
      ∙ ap (λ (k : List ℕ). take 8 k) (drop-drop 8 at s)

  pub address-v6 : (x y : ℕ) → l ≡ 20 → at + 16 ≤ length s → x ≡ big_endian (take 8 (drop at s)) → y ≡ big_endian (take 8 (drop (at + 8) s))
      → V6 x y port ≡ address_of l (take (l - 4) (drop at s)) port
  unfolding address_of
  address-v6 x y e h hx hy = rw (e, take-take 8 16 (drop at s) (omega arith), halves h, hx, hy)

  pub address-none : (l ≡ 8 → ⊥) → (l ≡ 20 → ⊥) → None ≡ address_of l (take (l - 4) (drop at s)) port
  unfolding address_of
  address-none h g = rw (ne_eqb l 8 h, ne_eqb l 20 g)

-- ---- an address from the part that was read

module _ (l n : ℕ) (s : List ℕ) (at : ℕ) {g : Segment} {p : Part} {next : ℕ} (z : n ≡ l - 4) (q : part n s at ≡ got g next) (e : part_of g ≡ p) where
  part-start : p.start ≡ at
  part-start = ap (λ (p : Part). p.start) (sym e) ∙ (part_at n s at q).start

  pub address_inside : p.start + (l - 4) ≤ length s
  address_inside = rw (part-start, ← z) (part_at n s at q).inside

  pub address_read : {a : Address} (port : ℕ) → a ≡ address_of l (take (l - 4) (drop p.start s)) port → a ≡ address_of l g.bytes port
  address_read port h = rw (part_at n s at q).bytes (h ∙ rw (part-start, ← z))
