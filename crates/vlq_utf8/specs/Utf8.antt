-- UTF-8 by RFC 3629, section 4: the grammar as a table of lead bytes, and the walk over a list of bytes by it.
-- It is document 01's table, in the grammar's order.
use Rattle.std.specs.Prelude.{Option, Some, None, ℕ, zero, suc, Bool, false, cond, ◌&&◌, List, [], ◌∷◌, leb, eqb}
use Rattle.vlq_utf8.specs.declared.Lead.{Lead}

-- A row: the first and the last lead byte, how many followers they have, and the lowest and the highest first follower.
pub data Row : Type 0 where
  row : ℕ → ℕ → ℕ → ℕ → ℕ → Row

unfoldable pub lead_rows : List Row
lead_rows =
    row 0x00 0x7f 0 0x80 0xbf  -- UTF8-1 = %x00-7F
    ∷ row 0xc2 0xdf 1 0x80 0xbf  -- UTF8-2 = %xC2-DF UTF8-tail
    ∷ row 0xe0 0xe0 2 0xa0 0xbf  -- UTF8-3 = %xE0 %xA0-BF UTF8-tail
    ∷ row 0xe1 0xec 2 0x80 0xbf  -- / %xE1-EC 2( UTF8-tail )
    ∷ row 0xed 0xed 2 0x80 0x9f  -- / %xED %x80-9F UTF8-tail
    ∷ row 0xee 0xef 2 0x80 0xbf  -- / %xEE-EF 2( UTF8-tail )
    ∷ row 0xf0 0xf0 3 0x90 0xbf  -- UTF8-4 = %xF0 %x90-BF 2( UTF8-tail )
    ∷ row 0xf1 0xf3 3 0x80 0xbf  -- / %xF1-F3 3( UTF8-tail )
    ∷ row 0xf4 0xf4 3 0x80 0x8f  -- / %xF4 %x80-8F 2( UTF8-tail )
    ∷ []

-- what the row that holds b says; where none does, b is no lead byte
unfoldable pub lead_in : List Row → ℕ → Option Lead
lead_in [] b = None
lead_in (row first last n low high ∷ rs) b = cond (leb first b && leb b last) (Some (record { followers = n; low = low; high = high })) (lead_in rs b)

unfoldable pub lead_of : ℕ → Option Lead
lead_of b = lead_in lead_rows b

abbrev pub after_lead : Option Lead → (ℕ → ℕ → ℕ → Bool) → Bool
after_lead (Some lead) rest = rest lead.followers lead.low lead.high
after_lead None rest = false

-- UTF8-octets where n followers are still due, the first of them from low to high; each after it is UTF8-tail = %x80-BF
unfoldable pub utf8_from : List ℕ → ℕ → ℕ → ℕ → Bool
utf8_from [] n low high = eqb n 0
utf8_from (b ∷ bs) zero low high = after_lead (lead_of b) (utf8_from bs)
utf8_from (b ∷ bs) (suc n) low high = leb low b && leb b high && utf8_from bs n 0x80 0xbf

-- UTF8-octets: is bs UTF-8?
unfoldable pub utf8 : List ℕ → Bool
utf8 bs = utf8_from bs 0 0x80 0xbf
