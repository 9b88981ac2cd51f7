-- Laws of the writers of messages: what is said by sizes is what `message_written` says; and how Unknown is stored.
use Rattle.std.specs.Prelude.{ℕ, ◌+◌, ◌≤◌, true, List, [], ◌∷◌, ◌≡◌, refl, leb, length}
use Rattle.std.proofs.Common.{arith, sym, ◌∙◌, le-leb, leb-true}
use Rattle.wire.specs.Bytes.{every}
use Rattle.wire.specs.Output.{Written, To, ask, asked, written, output_after}
use Rattle.wire.proofs.OutputLaws.{asked-to, written-to}
use Rattle.vlq.specs.Vlq.{limit}
use Rattle.types.specs.declared.Network.{Network}
use Rattle.frame.specs.Frame.{frame_bytes}
use Rattle.frame.specs.Writes.{frame_written}
use Rattle.frame_write.specs.Asked.{frame_length, frame_written_for}
use Rattle.frame_write.specs.FrameWriteLaws.{length-frame}
use Rattle.handshake.specs.Value.{entries_asked}
use Rattle.messages.specs.Value as Values
use Rattle.messages.specs.Value.{code_of, body_bytes, unknown_code, payloads_within, count_within, code_free, message_asked}
use Rattle.messages.specs.Writes.{write_get_peers, write_sync_info, write_unknown, value_of, message_whole, message_inside, message_written}
use Rattle.messages_opaque_write.specs.Asked.{unknown_written_for}

-- ---- what is said

pub said_get_peers : (network : Network) (out : List ℕ) (at : ℕ) → message_written network 0 write_get_peers out at ≡ frame_written_for (length out) at 0
unfolding frame_written_for message_written written asked message_whole message_inside message_asked value_of Values.message_entries payloads_within count_within code_free entries_asked every body_bytes code_of
said_get_peers network out at = rw (length-frame network 1 [])

pub said-sync_info : (network : Network) (body out : List ℕ) (at : ℕ)
    → message_written network 0 (write_sync_info body) out at ≡ frame_written network 65 body out at
unfolding frame_written message_written written asked message_whole message_inside message_asked value_of Values.message_entries payloads_within count_within code_free entries_asked every body_bytes code_of
said-sync_info network body out at = refl

pub said-unknown : (network : Network) (code : ℕ) (body out : List ℕ) (at : ℕ)
    → message_written network 0 (write_unknown code body) out at ≡ unknown_written_for code (length out) at (length body)
unfolding unknown_written_for message_written written asked message_whole message_inside message_asked value_of Values.message_entries payloads_within count_within code_free entries_asked every body_bytes code_of
said-unknown network code body out at = rw (length-frame network code body)

-- where Unknown is accepted, so is the frame of its body
pub framed : (network : Network) (code : ℕ) (body out : List ℕ) (at : ℕ) {e : ℕ}
    → To e ≡ unknown_written_for code (length out) at (length body) → frame_written network code body out at ≡ To e
unfolding unknown_written_for frame_written
framed network code body out at {e} says =
    let n : ℕ = length body in
    let bs : List ℕ = frame_bytes network code body in
    let h = asked-to _ (To (at + frame_length n)) e (sym says) in
    let room : at + frame_length n ≤ length out = leb-true (at + frame_length n) (length out) h.0.1.1.1.0 in
    let size = length-frame network code body in
    written-to [] (ask 7 (leb n limit) ∷ []) out at bs tt (h.0.1.0, tt) (omega (arith, room, size)) ∙ rw size h.1

-- ---- a writer that accepted

pub asked-unknown : (code len at n : ℕ) {e : ℕ} {r : Written} → r ≡ unknown_written_for code len at n → r ≡ To e
    → (n ≤ limit) × (unknown_code code ≡ true) × (at + frame_length n ≤ len)
unfolding unknown_written_for
asked-unknown code len at n {e} says p =
    let h = (asked-to _ (To (at + frame_length n)) e (sym says ∙ p)).0 in
    (leb-true n limit h.1.0, h.1.1.0, leb-true (at + frame_length n) len h.1.1.1.0)

-- an accepted Unknown is written as the frame of its body
pub stored_unknown : (network : Network) (code : ℕ) (body out : List ℕ) (at : ℕ) {e : ℕ} {r s : Written} {last : List ℕ}
    → r ≡ unknown_written_for code (length out) at (length body) → r ≡ To e → s ≡ frame_written network code body out at
    → last ≡ output_after s out at (frame_bytes network code body) → last ≡ output_after r out at (frame_bytes network code body)
unfolding output_after frame_written
stored_unknown network code body out at {e} {r} {s} {last} says p said left =
    let h = asked-unknown code (length out) at (length body) says p in
    let bs : List ℕ = frame_bytes network code body in
    let q : s ≡ To (at + length bs) =
    said
    ∙ written-to [] (ask 7 (leb (length body) limit) ∷ []) out at bs tt (le-leb (length body) limit h.0, tt) (omega (arith, h.2, length-frame network code body)) in
    rw p (rw q at left)

pub ruleset says = (said_get_peers, said-sync_info, said-unknown, framed)
