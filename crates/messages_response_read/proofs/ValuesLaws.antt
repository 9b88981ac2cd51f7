-- What is given of a body of payloads that was read says what the reading says.
use Rattle.std.specs.Prelude.{ℕ, List, map, ◌≡◌, length}
use Rattle.wire.specs.Reader.{got, map_answer}
use Rattle.handshake.proofs.ByIndexLaws.{by_index_lem, made_of_lem}
use Rattle.handshake.specs.Tables.{bytes_at}
use Rattle.messages.specs.Message.{Payload, payload}
use Rattle.messages.proofs.PlacesLaws.{gives-payload}
use Rattle.messages.specs.Value.{payload_value}
use Rattle.messages_inventory_read.specs.Parts.{Items, items, items_start}
use Rattle.messages_inventory_read.proofs.PartsLaws.{item_at_lem}
use Rattle.messages_response_read.specs.Answers.{payload_of}
use Rattle.messages_response_read.specs.Parts.{payload_at}
use Rattle.messages_response_read.specs.Values.{payload_given, payloads_given}

module _ (s : List ℕ) where
  payload_given_lem : (before : List Payload) (at : ℕ) {p : Payload} {e : ℕ} → payload (length s) before s at ≡ got p e
      → payload_given s (payload_of p) ≡ payload_value p
  unfolding payload_given payload_value
  payload_given_lem before at {p} {e} q =
      let g = (gives-payload (length s) before).holds p e q in
      let id : bytes_at s p.id.start 32 ≡ p.id.bytes = rw (← g.0.0) g.0.1.bytes in
      let body = g.1.bytes in
      λ i. record { id = id i; body = body i }

  pub payloads_given_lem : {i : Items Payload} {e : ℕ} → items (payload (length s)) s 0 ≡ got i e → payloads_given s (length i.list) ≡ map payload_value i.list
  unfolding payloads_given payload_at
  payloads_given_lem {i} q =
      by_index_lem (payload_given s) (λ k. map_answer payload_of (payload_at k s)) payload_value (payload (length s)) s (items_start s) i.list
      (λ k h. let x = item_at_lem (payload (length s)) k s q h in (x.0, made_of_lem (payload_given s) payload_of x.1 (payload_given_lem x.0.before x.0.from x.0.read)))
