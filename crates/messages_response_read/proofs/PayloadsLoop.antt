-- The loop over payloads keeps the sum of their lengths so far.
use Prim.Native.Nat.{ℕ, ◌+◌, ◌<◌}
use native.Mathlib.Omega.{arith}
use mathlib.Core.List.{List, [], ◌∷◌, ◌++◌}
use mathlib.Core.Path.{◌≡◌, ap, ◌∙◌}
use lib.ListN.{length}
use Rattle.wire.specs.Reader.{got, refused, map_answer, list_of}
use Rattle.messages.specs.Message.{Payload, total, payload_after, payload}
use Rattle.wire.proofs.LoopLaws.{ListSoFar, list_again, list-refused}

-- the payload lengths together, after one more payload
pub total-more : (l : List Payload) (p : Payload) → total (l ++ (p ∷ [])) ≡ total l + length p.body.bytes
unfolding total
total-more [] p = omega arith
total-more (q ∷ l) p = omega (arith, total-more l p)

-- payloads, by the sum of the lengths so far
module _ (size : ℕ) {s : List ℕ} {n at₀ sum at i : ℕ} (inv : ListSoFar (payload size) total s n at₀ sum at i) where
  after_these : payload size inv.list s at ≡ payload_after size sum s at
  unfolding payload
  after_these = ap (λ (n : ℕ). payload_after size n s at) inv.seen

  pub payloads_again : {p : Payload} {next sum' : ℕ} → i < n → payload_after size sum s at ≡ got p next → sum + length p.body.bytes ≡ sum'
      → ListSoFar (payload size) total s n at₀ sum' next (i + 1)
  payloads_again {p} h q e = list_again inv h (after_these ∙ q) (omega (arith, total-more inv.list p, inv.seen))

  pub payloads-refused : {m : ℕ} → i < n → payload_after size sum s at ≡ refused m → refused m ≡ map_answer total (list_of n (payload size) s at₀)
  payloads-refused h q = list-refused inv h (after_these ∙ q)
