-- Document 01, "Frames" and "Questions", Frame: what is read at the edges, and the bytes of an empty frame and of one with a body.
use Rattle.std.specs.Prelude.{ℕ, List, [], ◌∷◌, ◌++◌, map, ◌≡◌, refl}
use Rattle.wire.specs.Bytes.{big_endian_from, big_endian, big_endian_bytes, same_bytes}
use Rattle.wire.specs.Reader.{Answer, got, refused}
use Rattle.blake2b.specs.Blake2b.{for, word, bytes, words, unwords, ◌>>>◌, p, IV, SIGMA, G, round, flagged, F, dd, d, h0, blake2b}
use Rattle.types.specs.declared.Network.{Network}
use Rattle.types.specs.declared.Network.TheVariants.{Mainnet, Testnet}
use Rattle.frame.specs.Frame.{header, BodyFrame, checked, body, frame, checked_bytes, frame_bytes}

pub record Case : Type 0 where
  pub network : Network
  pub bytes : List ℕ
  pub at : ℕ
  pub answer : Answer BodyFrame

-- the code, the body's start and its bytes, and the frame's end
abbrev read : ℕ → ℕ → List ℕ → ℕ → Answer BodyFrame
read code start bytes end = got (record { code = code; body = record { start = start; bytes = bytes } }) end

abbrev case : Network → List ℕ → ℕ → Answer BodyFrame → Case
case network bytes at answer = record { network = network; bytes = bytes; at = at; answer = answer }

-- GetPeers of mainnet and of testnet: no body, so no check
abbrev mainnet_get_peers : List ℕ
mainnet_get_peers = 1 ∷ 0 ∷ 2 ∷ 4 ∷ 1 ∷ 0 ∷ 0 ∷ 0 ∷ 0 ∷ []

abbrev testnet_get_peers : List ℕ
testnet_get_peers = 2 ∷ 3 ∷ 2 ∷ 3 ∷ 1 ∷ 0 ∷ 0 ∷ 0 ∷ 0 ∷ []

-- the header of a body of three bytes, and the body "abc" with its check
abbrev three : List ℕ
three = 1 ∷ 0 ∷ 2 ∷ 4 ∷ 55 ∷ 0 ∷ 0 ∷ 0 ∷ 3 ∷ []

abbrev abc : List ℕ
abc = 0x61 ∷ 0x62 ∷ 0x63 ∷ []

abbrev abc_check : List ℕ
abc_check = 0xbd ∷ 0xdd ∷ 0x81 ∷ 0x3c ∷ []

unfoldable pub cases : List Case
cases =
    -- 9 bytes are asked for before the magic
    case Mainnet [] 0 (refused 5)
    ∷ case Mainnet (9 ∷ 9 ∷ 9 ∷ 9 ∷ 1 ∷ 0 ∷ 0 ∷ 0 ∷ []) 0 (refused 5)
    ∷ case Mainnet (9 ∷ 9 ∷ 9 ∷ 9 ∷ 1 ∷ 0 ∷ 0 ∷ 0 ∷ 0 ∷ []) 0 (refused 6)
    -- the magic of each network
    ∷ case Mainnet mainnet_get_peers 0 (read 1 9 [] 9)
    ∷ case Testnet testnet_get_peers 0 (read 1 9 [] 9)
    ∷ case Testnet mainnet_get_peers 0 (refused 6)
    ∷ case Mainnet testnet_get_peers 0 (refused 6)
    -- the limit, which is 00 FA 12 00, and one more, asked after the magic and before the bytes
    ∷ case Mainnet (1 ∷ 0 ∷ 2 ∷ 4 ∷ 1 ∷ 0x00 ∷ 0xfa ∷ 0x12 ∷ 0x00 ∷ []) 0 (refused 8)
    ∷ case Mainnet (1 ∷ 0 ∷ 2 ∷ 4 ∷ 1 ∷ 0x00 ∷ 0xfa ∷ 0x12 ∷ 0x01 ∷ []) 0 (refused 7)
    ∷ case Testnet (1 ∷ 0 ∷ 2 ∷ 4 ∷ 1 ∷ 0x00 ∷ 0xfa ∷ 0x12 ∷ 0x01 ∷ []) 0 (refused 6)
    -- the check and the body, whose bytes are asked for before the check is
    ∷ case Mainnet three 0 (refused 8)
    ∷ case Mainnet (three ++ (0xbd ∷ 0xdd ∷ 0x81 ∷ [])) 0 (refused 8)
    ∷ case Mainnet (three ++ (abc_check ++ (0x61 ∷ 0x62 ∷ []))) 0 (refused 8)
    ∷ case Mainnet (three ++ (abc_check ++ abc)) 0 (read 55 13 abc 16)
    ∷ case Mainnet (three ++ ((0xbd ∷ 0xdd ∷ 0x81 ∷ 0x3d ∷ []) ++ abc)) 0 (refused 9)
    -- bytes after the frame are ignored, and it may stand anywhere
    ∷ case Mainnet (mainnet_get_peers ++ (7 ∷ 7 ∷ 7 ∷ 7 ∷ 7 ∷ [])) 0 (read 1 9 [] 9)
    ∷ case Mainnet (7 ∷ 7 ∷ mainnet_get_peers) 2 (read 1 11 [] 11)
    -- the place: at most the length
    ∷ case Mainnet mainnet_get_peers 9 (refused 5)
    ∷ case Mainnet mainnet_get_peers 10 (refused 12)
    ∷ []

pub all-cases : map (λ (c : Case). frame c.network c.bytes c.at) cases ≡ map (λ (c : Case). c.answer) cases
unfolding cases frame header checked body big_endian big_endian_from same_bytes blake2b F for word bytes words unwords ◌>>>◌ p IV SIGMA G round flagged dd d h0
all-cases = refl

pub empty-bytes : frame_bytes Testnet 1 [] ≡ testnet_get_peers
unfolding frame_bytes checked_bytes big_endian_bytes
empty-bytes = refl

pub body_bytes_lem : frame_bytes Mainnet 55 abc ≡ three ++ (abc_check ++ abc)
unfolding frame_bytes checked_bytes big_endian_bytes blake2b F for word bytes words unwords ◌>>>◌ p IV SIGMA G round flagged dd d h0
body_bytes_lem = refl
