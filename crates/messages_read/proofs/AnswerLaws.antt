-- What is given of a message is what is given of its body.
use Prim.Native.Nat.{ℕ}
use mathlib.Core.List.{List}
use mathlib.Core.Path.{◌≡◌, refl, ap, sym}
use lib.ListN.{length}
use borrow.Author.Tests.{ne_eqb}
use Rattle.wire.specs.Reader.{Answer, got, refused, part, map_answer}
use Rattle.wire.proofs.ReaderLaws.{map-value}
use Rattle.types.specs.declared.Network.{Network}
use Rattle.messages.specs.Message.{modifier_request, inv, peers_body, ids, payload, payloads}
use Rattle.messages_inventory_read.specs.Answers.{inventory_in}
use Rattle.messages_inventory_read.specs.Parts.{items}
use Rattle.messages_inventory_read.proofs.PartsLaws.{ids-items}
use Rattle.messages_response_read.proofs.PartsLaws.{payloads-items}
use Rattle.messages_peers_read.specs.Answers.{peers_of}
use Rattle.messages_peers_read.specs.Parts.{entries}
use Rattle.messages_read.specs.Answers.{message_of}
use Rattle.messages_read.specs.AnswersLaws.{peers-message}
use Rattle.messages_read.specs.declared.Message.TheVariants as Messages

-- an answer that is seen through two functions, and through two others that give the same
seen : {A B C D : Type 0} (f : A → B) (g : B → D) (f' : A → C) (g' : C → D) → ((a : A) → g (f a) ≡ g' (f' a)) → (r : Answer A)
    → map_answer g (map_answer f r) ≡ map_answer g' (map_answer f' r)
unfolding map_answer
seen f g f' g' same (got a next) = ap (λ d. got d next) (same a)
seen f g f' g' same (refused m) = refl

module _ (network : Network) (s : List ℕ) where
  pub peers_message : (cap : ℕ) → map_answer (message_of network s) (peers_body cap s 0) ≡ map_answer Messages.Peers (map_answer (peers_of network s) (entries cap s 0))
  peers_message cap = sym (peers-message network s cap refl)

  pub request_message : map_answer (message_of network s) (ids modifier_request s 0)
      ≡ map_answer Messages.ModifierRequest (map_answer (inventory_in s) (items (λ before. part 32) s 0))
  request_message = rw (ids-items modifier_request s 0) (seen _ _ _ _ (λ i. refl) (items (λ before. part 32) s 0))

  pub inv_message : map_answer (message_of network s) (ids inv s 0) ≡ map_answer Messages.Inv (map_answer (inventory_in s) (items (λ before. part 32) s 0))
  inv_message = rw (ids-items inv s 0) (seen _ _ _ _ (λ i. refl) (items (λ before. part 32) s 0))

  pub response_message : map_answer (message_of network s) (payloads (length s) s 0)
      ≡ map_answer Messages.ModifierResponse (map_answer (inventory_in s) (items (payload (length s)) s 0))
  response_message = rw (payloads-items (length s) s 0) (seen _ _ _ _ (λ i. refl) (items (payload (length s)) s 0))

-- what the codes without a reader of their own are answered by
pub ruleset message_answers = (map-value, ne_eqb)
