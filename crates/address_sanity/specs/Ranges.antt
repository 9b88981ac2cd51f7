-- The table of address ranges: document 01, "Addresses", and document 02, §5, which added 3fff::/20. A row is (first address, prefix
-- length), as in CIDR notation (RFC 4632, section 3.1; RFC 4291, section 2.3), with the RFC that sets the range aside.
use Rattle.std.specs.Prelude.{ℕ, ◌+◌, ◌*◌, List, [], ◌∷◌}

abbrev pub Range : Type 0
Range = ℕ × ℕ

-- a.b.c.d as a number below 2 ^ 32
abbrev pub ipv4 : ℕ → ℕ → ℕ → ℕ → ℕ
ipv4 a b c d = ((a * 256 + b) * 256 + c) * 256 + d

-- a:b:c:d:e:f:g:h as a number below 2 ^ 128
abbrev pub ipv6 : ℕ → ℕ → ℕ → ℕ → ℕ → ℕ → ℕ → ℕ → ℕ
ipv6 a b c d e f g h = ((((((a * 65536 + b) * 65536 + c) * 65536 + d) * 65536 + e) * 65536 + f) * 65536 + g) * 65536 + h

-- bogus on every network
unfoldable pub always_v4 : List Range
always_v4 =
    (ipv4 127 0 0 0, 8)  -- RFC 1122, section 3.2.1.3: loopback
    ∷ (ipv4 169 254 0 0, 16)  -- RFC 3927, section 2.1: link-local
    ∷ (ipv4 224 0 0 0, 4)  -- RFC 1112, section 4: class D, multicast
    ∷ (ipv4 240 0 0 0, 4)  -- RFC 1112, section 4: class E, reserved, with the broadcast address 255.255.255.255
    ∷ (ipv4 0 0 0 0, 32)  -- RFC 1122, section 3.2.1.3: unspecified
    ∷ (ipv4 198 18 0 0, 15)  -- RFC 2544, appendix C.2.2, as RFC 6890, table 12, has it: benchmarking
    ∷ []

unfoldable pub always_v6 : List Range
always_v6 =
    (ipv6 0 0 0 0 0 0 0 1, 128)  -- RFC 4291, section 2.5.3: loopback
    ∷ (ipv6 0 0 0 0 0 0 0 0, 128)  -- RFC 4291, section 2.5.2: unspecified
    ∷ (ipv6 0xff00 0 0 0 0 0 0 0, 8)  -- RFC 4291, section 2.7: multicast
    ∷ (ipv6 0xfe80 0 0 0 0 0 0 0, 10)  -- RFC 4291, section 2.5.6: link-local
    ∷ (ipv6 0 0 0 0 0 0xffff 0 0, 96)  -- RFC 4291, section 2.5.5.2: IPv4-mapped
    ∷ []

-- bogus on mainnet as well
unfoldable pub mainnet_v4 : List Range
mainnet_v4 =
    (ipv4 10 0 0 0, 8)  -- RFC 1918, section 3: private
    ∷ (ipv4 172 16 0 0, 12)  -- RFC 1918, section 3: private
    ∷ (ipv4 192 168 0 0, 16)  -- RFC 1918, section 3: private
    ∷ (ipv4 100 64 0 0, 10)  -- RFC 6598, section 7: shared, for carrier-grade NAT
    ∷ (ipv4 192 0 2 0, 24)  -- RFC 5737, section 3: documentation
    ∷ (ipv4 198 51 100 0, 24)  -- RFC 5737, section 3: documentation
    ∷ (ipv4 203 0 113 0, 24)  -- RFC 5737, section 3: documentation
    ∷ []

unfoldable pub mainnet_v6 : List Range
mainnet_v6 =
    (ipv6 0xfc00 0 0 0 0 0 0 0, 7)  -- RFC 4193, section 3.1: unique local
    ∷ (ipv6 0x2001 0x0db8 0 0 0 0 0 0, 32)  -- RFC 3849, section 2: documentation
    ∷ (ipv6 0x3fff 0 0 0 0 0 0 0, 20)  -- RFC 9637: documentation
    ∷ []
