-- The order of a message writer's questions, computed: the place, the ids inside, the count, Unknown's code, room. One
-- lemma covers the table.
use Rattle.std.specs.Prelude.{ℕ, ◌≡◌, refl, replicate}
use mathlib.Core.List.{List, [], ◌∷◌, flat_map}
use Rattle.wire.specs.Bytes.{big_endian_bytes, every}
use Rattle.wire.specs.Output.{Written, To, Refused, put, asked, written, output_after}
use Rattle.vlq.specs.Vlq.{vlq_bytes, vlq_in}
use Rattle.types.specs.declared.Network.TheVariants.{Mainnet}
use Rattle.frame.specs.Frame.{checked_bytes, frame_bytes}
use Rattle.handshake.specs.Value.{entries_asked}
use Rattle.handshake.specs.Tables.{rows, whole_rows, inside}
use Rattle.messages.specs.Value as Values
use Rattle.messages.specs.Value.{code_of, ids_bytes, body_bytes, payloads_within, count_within, unknown_code, code_free, message_asked}
use Rattle.messages.specs.Writes.{ids_of, MessageWrite, write_get_peers, write_modifier_response, write_inv, write_sync_info, write_unknown, value_of, message_whole, message_inside, message_bytes, message_written}

-- a message written on mainnet to an output from a place: what the writer says, and the output after it
pub record Case : Type 0 where
  pub write : MessageWrite
  pub out : List ℕ
  pub at : ℕ
  pub says : Written
  pub last : List ℕ

unfoldable pub table : List Case
table =
    record { write = write_get_peers; out = replicate 10 7; at = 1; says = To 10; last = 7 ∷ 1 ∷ 0 ∷ 2 ∷ 4 ∷ 1 ∷ 0 ∷ 0 ∷ 0 ∷ 0 ∷ [] }
    ∷ record { write = write_get_peers; out = replicate 9 7; at = 1; says = Refused 14; last = replicate 9 7 }
    ∷ record { write = write_sync_info []; out = replicate 9 7; at = 0; says = To 9; last = 1 ∷ 0 ∷ 2 ∷ 4 ∷ 65 ∷ 0 ∷ 0 ∷ 0 ∷ 0 ∷ [] }
    ∷ record { write = write_unknown 66 []; out = replicate 9 7; at = 0; says = To 9; last = 1 ∷ 0 ∷ 2 ∷ 4 ∷ 66 ∷ 0 ∷ 0 ∷ 0 ∷ 0 ∷ [] }
    ∷ record { write = write_unknown 65 []; out = 7 ∷ []; at = 1; says = Refused 15; last = 7 ∷ [] }
    ∷ record { write = write_unknown 65 []; out = 7 ∷ []; at = 2; says = Refused 12; last = 7 ∷ [] }
    ∷ record { write = write_inv 2 (replicate 401 0) (replicate 31 0); out = 7 ∷ []; at = 1; says = Refused 12; last = 7 ∷ [] }
    ∷ record { write = write_inv 2 (replicate 401 0) (replicate 32 0); out = 7 ∷ []; at = 1; says = Refused 10; last = 7 ∷ [] }
    ∷ record { write = write_modifier_response 2 (0 ∷ []) []; out = 7 ∷ []; at = 2; says = Refused 16; last = 7 ∷ [] }
    ∷ []

unfoldable pub EachAgrees : List Case → Type 0
EachAgrees [] = Unit {0}
EachAgrees (c ∷ cs) =
    (message_written Mainnet 0 c.write c.out c.at ≡ c.says)
    × (output_after c.says c.out c.at (message_bytes Mainnet (value_of c.write)) ≡ c.last) × EachAgrees cs

pub cases : EachAgrees table
unfolding EachAgrees table big_endian_bytes every put asked written output_after vlq_bytes vlq_in checked_bytes frame_bytes entries_asked rows whole_rows inside Values.message_entries code_of ids_bytes body_bytes payloads_within count_within unknown_code code_free message_asked ids_of value_of message_whole message_inside message_written flat_map
cases =
    (refl, refl, (refl, refl, (refl, refl, (refl, refl, (refl, refl, (refl, refl, (refl, refl, (refl, refl, (refl, refl, tt)))))))))
