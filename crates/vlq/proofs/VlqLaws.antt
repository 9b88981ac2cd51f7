-- Laws of VLQs: the cut law, the two cases of a VLQ's bytes, that they are read back, and that no shorter bytes are read to the same value.
use Prim.Native.Nat.{ℕ, zero, suc, ◌+◌, ◌-◌, ◌*◌, ◌/◌, ◌%◌, ◌^◌, ◌≤◌, ◌<◌}
use Rattle.std.proofs.Common.{pow-suc, arith, ⊎_elim, ap, sym, ◌∙◌, lt-ltb, le-ltb, le-leb}
use Rattle.std.specs.Prelude.{Bool, true, List, [], ◌∷◌, ◌≡◌, refl, T, ltb, leb, length, get_or}
use Rattle.wire.specs.Numbers.{lt-or_ge}
use Rattle.wire.specs.Reader.{Answer, got, refused, bind}
use Rattle.wire.proofs.AnswerLaws.{no_answer}
use Rattle.wire.proofs.ReaderLaws.{byte-got, byte_missing, byte-outside}
use Rattle.wire.specs.Stable.{Stable, AtLeast}
use Rattle.wire.proofs.StableLaws.{stable_then, stable_pure, stable_refuse, stable_cond, stable_guard, stable_byte, least-byte, least-none, least_then}
use Rattle.wire.specs.ReadsBack.{ReadsBack}
use Rattle.wire.proofs.ReadsBackLaws.{reads-pure, reads-guard, reads_then, reads-last, reads_byte}
use Rattle.vlq.specs.Vlq.{groups, vlq, limit, vlq_length, vlq_in, vlq_bytes}

-- ---- the cut law

module _ {is_cut : ℕ → Bool} (one : T (is_cut 1)) where
  pub stable_groups : (n : ℕ) → Stable is_cut (groups n)
  unfolding groups
  stable_groups zero = stable_refuse 2
  stable_groups (suc n) =
      stable_then (stable_byte one)
      (λ b. stable_cond (ltb b 0x80) (stable_pure b) (stable_then (stable_groups n) (λ rest. stable_pure (b % 0x80 + 0x80 * rest))))

  pub stable_vlq : Stable is_cut vlq
  unfolding vlq
  stable_vlq = stable_then (stable_groups 10) (λ sum. stable_pure (sum % 2 ^ 64))

  pub stable_vlq_length : Stable is_cut vlq_length
  unfolding vlq_length
  stable_vlq_length = stable_then stable_vlq (λ v. stable_guard (leb v limit) 3 v)

-- a VLQ takes a byte at least
always : ℕ → Bool
always m = true

one_always : T (always 1)
unfolding always
one_always = tt

least-groups : (n : ℕ) → AtLeast 1 (groups (suc n))
unfolding groups
least-groups n =
    least_then {is_cut = always} 1 0 (stable_byte one_always) least-byte
    (λ b. least-none {is_cut = always} (stable_cond (ltb b 0x80) (stable_pure b) (stable_then (stable_groups one_always n) (λ rest. stable_pure (b % 0x80 + 0x80 * rest)))))

pub least-vlq : AtLeast 1 vlq
unfolding vlq
least-vlq = least_then {is_cut = always} 1 0 (stable_groups one_always 10) (least-groups 9) (λ sum. least-none {is_cut = always} (stable_pure (sum % 2 ^ 64)))

-- ---- the bytes of a VLQ

in_last : (n v : ℕ) → v < 0x80 → vlq_in n v ≡ v ∷ []
unfolding vlq_in
in_last zero v h = refl
in_last (suc n) v h = rw (lt-ltb v 0x80 h, vlq_in)

in_more : (n v : ℕ) → 0x80 ≤ v → vlq_in (suc n) v ≡ (v % 0x80 + 0x80) ∷ vlq_in n (v / 0x80)
unfolding vlq_in
in_more n v h = rw (le-ltb v 0x80 h, vlq_in)

-- bytes beyond the number itself change nothing
in_same : (m n v : ℕ) → v ≤ m → v ≤ n → vlq_in m v ≡ vlq_in n v
in_same zero n v h k = let s : v < 0x80 = omega arith in in_last zero v s ∙ sym (in_last n v s)
in_same (suc m) zero v h k = let s : v < 0x80 = omega arith in in_last (suc m) v s ∙ sym (in_last zero v s)
in_same (suc m) (suc n) v h k =
    ⊎_elim
    (λ (s : v < 0x80). in_last (suc m) v s ∙ sym (in_last (suc n) v s))
    (λ (l : 0x80 ≤ v).
    in_more m v l ∙ ap (λ (r : List ℕ). (v % 0x80 + 0x80) ∷ r) (in_same m n (v / 0x80) (omega arith) (omega arith)) ∙ sym (in_more n v l))
    (lt-or_ge v 0x80)

pub vlq-last : (v : ℕ) → v < 0x80 → vlq_bytes v ≡ v ∷ []
unfolding vlq_bytes
vlq-last v h = in_last v v h

pub vlq-more : (v : ℕ) → 0x80 ≤ v → vlq_bytes v ≡ (v % 0x80 + 0x80) ∷ vlq_bytes (v / 0x80)
unfolding vlq_bytes
vlq-more v h =
    in_same v (suc v) v (omega arith) (omega arith) ∙ in_more v v h
    ∙ ap (λ (r : List ℕ). (v % 0x80 + 0x80) ∷ r) (in_same v (v / 0x80) (v / 0x80) (omega arith) (omega arith))

pub vlq_pos : (v : ℕ) → 0 < length (vlq_bytes v)
vlq_pos v = ⊎_elim (λ (s : v < 0x80). rw (vlq-last v s) (omega arith)) (λ (l : 0x80 ≤ v). rw (vlq-more v l) (omega arith)) (lt-or_ge v 0x80)

-- a number below 128 ^ (n + 1) has at most n + 1 bytes
pub vlq_length_lem : (n v : ℕ) → v < 0x80 ^ suc n → length (vlq_bytes v) ≤ suc n
vlq_length_lem zero v h = rw (vlq-last v (omega arith)) (omega arith)
vlq_length_lem (suc n) v h =
    ⊎_elim
    (λ (s : v < 0x80). rw (vlq-last v s) (omega arith))
    (λ (l : 0x80 ≤ v). rw (vlq-more v l) (omega (arith, vlq_length_lem n (v / 0x80) (omega (arith, pow-suc 0x80 (suc n))))))
    (lt-or_ge v 0x80)

pub vlq_ten : (v : ℕ) → v < 2 ^ 64 → length (vlq_bytes v) ≤ 10
vlq_ten v h = vlq_length_lem 9 v (omega arith)

-- ---- reading back

reads-one : (n v : ℕ) → v < 0x80 → ReadsBack (groups (suc n)) (λ x. x) (vlq_bytes v) v
unfolding groups
reads-one n v h = rw (vlq-last v h) (reads-last (reads_byte v) (λ b e. rw (e, lt-ltb v 0x80 h) (reads-pure v refl)))

reads_more : (n v : ℕ) → 0x80 ≤ v → ReadsBack (groups n) (λ x. x) (vlq_bytes (v / 0x80)) (v / 0x80)
    → ReadsBack (groups (suc n)) (λ x. x) (vlq_bytes v) v
unfolding groups
reads_more n v h r =
    let l : 0x80 ≤ v % 0x80 + 0x80 = omega arith in
    rw (vlq-more v h)
    (reads_then {w = (v % 0x80 + 0x80) ∷ []} {w' = vlq_bytes (v / 0x80)} (reads_byte (v % 0x80 + 0x80))
    (λ b e. rw (e, le-ltb (v % 0x80 + 0x80) 0x80 l) (reads-last r (λ rest e'. reads-pure _ (omega arith)))))

reads-groups : (n v : ℕ) → v < 0x80 ^ suc n → ReadsBack (groups (suc n)) (λ x. x) (vlq_bytes v) v
reads-groups zero v h = reads-one zero v (omega arith)
reads-groups (suc n) v h =
    ⊎_elim
    (λ (g : v < 0x80). reads-one (suc n) v g)
    (λ (g : 0x80 ≤ v). reads_more (suc n) v g (reads-groups n (v / 0x80) (omega (arith, pow-suc 0x80 (suc n)))))
    (lt-or_ge v 0x80)

-- wherever the bytes of v stand, they are read to v
pub reads-vlq : (v : ℕ) → v < 2 ^ 64 → ReadsBack vlq (λ x. x) (vlq_bytes v) v
unfolding vlq
reads-vlq v h = reads-last (reads-groups 9 v (omega arith)) (λ sum e. reads-pure _ (omega arith))

pub reads-vlq_length : (v : ℕ) → v ≤ limit → ReadsBack vlq_length (λ x. x) (vlq_bytes v) v
unfolding vlq_length
reads-vlq_length v h =
    reads-last (reads-vlq v (omega arith)) (λ x e. reads-guard (leb x limit) 3 x (le-leb x limit (omega arith)) e)

-- ---- the shortest

-- an answer to a VLQ at the place at: k bytes hold a sum below 128 ^ k
abbrev Below : ℕ → Answer ℕ → Type 0
Below at (got sum e) = (at < e) × (sum < 0x80 ^ (e - at))
Below at (refused m) = Unit {0}

below_group : (at g : ℕ) → g < 0x80 → (r : Answer ℕ) → Below (at + 1) r → Below at (bind r (λ rest next. got (g + 0x80 * rest) next))
below_group at g h (got rest e) b =
    let k : e - at ≡ suc (e - (at + 1)) = omega (arith, b.0) in
    (omega (arith, b.0), rw k (omega (arith, b.1, pow-suc 0x80 (e - (at + 1)))))
below_group at g h (refused m) b = tt

below-byte : (at b : ℕ) → b < 0x80 → Below at (got b (at + 1))
below-byte at b h = let k : at + 1 - at ≡ 1 = omega arith in (omega arith, rw k (omega arith))

groups-below : (n : ℕ) (s : List ℕ) (at : ℕ) → Below at (groups n s at)
unfolding groups
groups-below zero s at = tt
groups-below (suc n) s at =
    ⊎_elim
    (λ (h : at < length s).
    rw (byte-got s at h)
    (⊎_elim
    (λ (l : get_or s at 0 < 0x80). rw (lt-ltb (get_or s at 0) 0x80 l) (below-byte at (get_or s at 0) l))
    (λ (l : 0x80 ≤ get_or s at 0).
    rw (le-ltb (get_or s at 0) 0x80 l)
    (below_group at (get_or s at 0 % 0x80) (omega arith) (groups n s (at + 1)) (groups-below n s (at + 1))))
    (lt-or_ge (get_or s at 0) 0x80)))
    (λ (h : length s ≤ at).
    ⊎_elim
    (λ (o : length s < at). rw (byte-outside s at o) tt)
    (λ (o : at ≤ length s). rw (byte_missing s at (omega arith)) tt)
    (lt-or_ge (length s) at))
    (lt-or_ge at (length s))

sum-shortest : (at v e : ℕ) (r : Answer ℕ) → Below at r → bind r (λ sum next. got (sum % 2 ^ 64) next) ≡ got v e → at + length (vlq_bytes v) ≤ e
sum-shortest at v e (got sum next) b q =
    let x : sum % 2 ^ 64 ≡ v = cc in
    let y : next ≡ e = cc in
    let k : next - at ≡ suc (e - at - 1) = omega (arith, b.0) in
    let l : v ≤ sum = omega arith in
    omega (arith, b.0, vlq_length_lem (e - at - 1) v (omega (arith, rw k at b.1)))
sum-shortest at v e (refused m) b q = no_answer q

-- whatever is read to v takes at least the bytes of v
pub vlq-shortest : (s : List ℕ) (at v e : ℕ) → vlq s at ≡ got v e → at + length (vlq_bytes v) ≤ e
unfolding vlq
vlq-shortest s at v e q = sum-shortest at v e (groups 10 s at) (groups-below 10 s at) q
