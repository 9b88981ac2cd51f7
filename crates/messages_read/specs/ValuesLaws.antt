-- What is given of a message that was read says what the reading says; and its list is read from the place that is given as the first one's.
use Rattle.std.specs.Prelude.{ℕ, List, ◌≡◌, length}
use Rattle.std.proofs.Math.Path.{refl}
use Rattle.std.proofs.Common.{sym, ap, ◌∙◌}
use Rattle.wire.specs.Reader.{got, Segment, part}
use Rattle.wire.proofs.ReaderLaws.{map-got}
use Rattle.types.specs.declared.Network.{Network}
use Rattle.messages.specs.Message as Bodies
use Rattle.messages.specs.Message.{Message, payload, message}
use Rattle.messages.proofs.PlacesLaws.{ReadBy, by_none, by_peers, by_request, by_response, by_inv, by_sync_info, by_unknown, read_by}
use Rattle.messages.specs.Value.{peers_value, modifier_request_value, modifier_response_value, inv_value, message_value}
use Rattle.messages_inventory_read.specs.Parts.{Items}
use Rattle.messages_inventory_read.proofs.PartsLaws.{ids-items}
use Rattle.messages_response_read.proofs.PartsLaws.{payloads-items}
use Rattle.messages_inventory_read.proofs.ValuesLaws.{ids_given_lem, items-from}
use Rattle.messages_response_read.proofs.ValuesLaws.{payloads_given_lem}
use Rattle.messages_peers_read.proofs.PartsLaws.{peers-entries}
use Rattle.messages_peers_read.proofs.ValuesLaws.{peers_given_lem, entries_from}
use Rattle.messages_read.specs.Answers.{message_of}
use Rattle.messages_read.specs.Values.{message_given, ListGiven, no_peers, peers, request, response, inv, sync_info, unknown}

module _ (s : List ℕ) where
  pub message_given_lem : (network : Network) (cap code : ℕ) {m : Message} {e : ℕ} → message cap code s 0 ≡ got m e
      → message_given cap code s (message_of network s m) ≡ message_value code m
  unfolding message_given message_value
  message_given_lem network cap code q = go (read_by cap code s 0 q)
    where
      go : {m : Message} {e : ℕ} → ReadBy cap s 0 m e → message_given cap code s (message_of network s m) ≡ message_value code m
      go by_none = refl
      go (by_peers q) =
          let r = map-got Bodies.peers (sym (peers-entries cap s 0) ∙ q) in
          rw (← r.2) (ap peers_value (peers_given_lem cap s r.1))
      go (by_request q) =
          let r = map-got (λ (i : Items Segment). Bodies.modifier_request i.type i.list) (sym (ids-items Bodies.modifier_request s 0) ∙ q) in
          rw (← r.2) (ap (modifier_request_value r.0.type) (ids_given_lem s r.1))
      go (by_response q) =
          let r = map-got (λ (i : Items Bodies.Payload). Bodies.modifier_response i.type i.list) (sym (payloads-items (length s) s 0) ∙ q) in
          rw (← r.2) (ap (modifier_response_value r.0.type) (payloads_given_lem s r.1))
      go (by_inv q) =
          let r = map-got (λ (i : Items Segment). Bodies.inv i.type i.list) (sym (ids-items Bodies.inv s 0) ∙ q) in
          rw (← r.2) (ap (inv_value r.0.type) (ids_given_lem s r.1))
      go by_sync_info = refl
      go by_unknown = refl

-- as many items as are counted, read from the given place on, are the message's
pub list-given : (network : Network) (cap code : ℕ) (s : List ℕ) {m : Message} {e : ℕ} → message cap code s 0 ≡ got m e
    → ListGiven s e m (message_of network s m)
list-given network cap code s q = go (read_by cap code s 0 q)
  where
    go : {m : Message} {e : ℕ} → ReadBy cap s 0 m e → ListGiven s e m (message_of network s m)
    go by_none = no_peers
    go (by_peers q) =
        let r = map-got Bodies.peers (sym (peers-entries cap s 0) ∙ q) in
        rw (← r.2) (peers (refl, entries_from network cap s r.1))
    go (by_request q) =
        let r = map-got (λ (i : Items Segment). Bodies.modifier_request i.type i.list) (sym (ids-items Bodies.modifier_request s 0) ∙ q) in
        rw (← r.2) (request (refl, items-from (λ before. part 32) s r.1))
    go (by_response q) =
        let r = map-got (λ (i : Items Bodies.Payload). Bodies.modifier_response i.type i.list) (sym (payloads-items (length s) s 0) ∙ q) in
        rw (← r.2) (response (refl, items-from (payload (length s)) s r.1))
    go (by_inv q) =
        let r = map-got (λ (i : Items Segment). Bodies.inv i.type i.list) (sym (ids-items Bodies.inv s 0) ∙ q) in
        rw (← r.2) (inv (refl, items-from (λ before. part 32) s r.1))
    go by_sync_info = sync_info
    go by_unknown = unknown
