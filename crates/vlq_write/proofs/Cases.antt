-- The order of a writer's questions, computed: the place, 255 bytes, UTF-8, room. One lemma covers the table.
use Rattle.std.specs.Prelude.{ℕ, List, [], ◌∷◌, ◌≡◌, refl, replicate}
use Rattle.wire.specs.Output.{Written, To, Refused, put, asked, written, output_after}
use Rattle.vlq_utf8.specs.Utf8.{lead_rows, lead_in, lead_of, utf8_from, utf8}
use Rattle.vlq.specs.ShortString.{short_string_bytes}
use Rattle.vlq_write.specs.Asked.{short_string_asked}

-- a short string written to an output from a place: what the writer says, and the output after it
pub record Case : Type 0 where
  pub string : List ℕ
  pub out : List ℕ
  pub at : ℕ
  pub says : Written
  pub last : List ℕ

unfoldable pub table : List Case
table =
    record { string = 0xc3 ∷ 0xa9 ∷ []; out = 7 ∷ 7 ∷ 7 ∷ 7 ∷ 7 ∷ []; at = 1; says = To 4; last = 7 ∷ 2 ∷ 0xc3 ∷ 0xa9 ∷ 7 ∷ [] }
    ∷ record { string = []; out = 7 ∷ []; at = 0; says = To 1; last = 0 ∷ [] }
    ∷ record { string = replicate 256 0xff; out = 7 ∷ []; at = 2; says = Refused 12; last = 7 ∷ [] }
    ∷ record { string = replicate 256 0xff; out = 7 ∷ []; at = 1; says = Refused 13; last = 7 ∷ [] }
    ∷ record { string = 0xff ∷ []; out = 7 ∷ []; at = 1; says = Refused 4; last = 7 ∷ [] }
    ∷ record { string = 0x61 ∷ []; out = 7 ∷ 7 ∷ []; at = 1; says = Refused 14; last = 7 ∷ 7 ∷ [] }
    ∷ []

unfoldable pub EachAgrees : List Case → Type 0
EachAgrees [] = Unit {0}
EachAgrees (c ∷ cs) =
    (written [] (short_string_asked c.string) c.out c.at (short_string_bytes c.string) ≡ c.says)
    × (output_after c.says c.out c.at (short_string_bytes c.string) ≡ c.last) × EachAgrees cs

pub cases : EachAgrees table
unfolding EachAgrees table put asked written output_after lead_rows lead_in lead_of utf8_from utf8
cases = (refl, refl, (refl, refl, (refl, refl, (refl, refl, (refl, refl, (refl, refl, tt))))))
