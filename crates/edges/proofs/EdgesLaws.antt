-- The one lemma that covers the table of the cases marked *. Assumes nothing.
use Rattle.std.specs.Prelude.{◌-◌, refl}
use Rattle.wire.specs.Bytes.{big_endian_from, big_endian}
use Rattle.wire.specs.Reader.{map_answer, fold, list_of}
use Rattle.vlq_utf8.specs.Utf8.{lead_rows, lead_in, lead_of, utf8_from, utf8}
use Rattle.vlq.specs.Vlq.{groups, vlq, vlq_length, vlq_in, vlq_bytes}
use Rattle.vlq.specs.ShortString.{string, short_string}
use Rattle.vlq_zigzag.specs.Zigzag.{zigzag_encode, zigzag_decode}
use Rattle.types.specs.Order.{then_by, below}
use Rattle.address_sanity.specs.Ranges.{always_v4, mainnet_v4}
use Rattle.address_sanity.specs.Bogus.{contains, some_contains, bogus}
use Rattle.handshake.specs.Entry.{version, address_of, address, address_if, entry}
use Rattle.handshake.specs.Verdict.{first_feature, other_magic, validate_peer}
use Rattle.handshake.specs.Writes.{nipopow, mode_feature}
use Rattle.messages.specs.Message.{count, inventory_header, ids, message}
use Rattle.edges.specs.Edges.{EachAgrees, cases}

pub all-cases : EachAgrees cases
unfolding EachAgrees cases groups vlq vlq_length vlq_in vlq_bytes zigzag_encode zigzag_decode string short_string lead_rows lead_in lead_of utf8_from utf8
    version address_of address address_if entry big_endian big_endian_from fold list_of nipopow mode_feature
    then_by below first_feature other_magic validate_peer count inventory_header ids message always_v4 mainnet_v4 contains some_contains bogus map_answer
all-cases = (refl, (refl, (refl, (refl, (refl, (refl, (refl, (refl, (refl, (refl, (refl, (refl, (refl, (refl, (refl, (refl, (refl, (refl, (refl, (refl, (refl, (refl, (refl, (refl, (refl, (refl, (refl, (refl, (refl, (refl, (refl, (refl, (refl, (refl, tt))))))))))))))))))))))))))))))))))
