-- HMAC over MD5 (RFC 2104).
use Rattle.std.specs.Prelude.{ℕ, ◌-◌, nat_lt, List, ◌++◌, length, map, replicate, bit_xor, if◌then◌else◌}
use Rattle.md5.specs.Md5.{md5}

-- a key of more than 64 octets is hashed (RFC 2104 2, 3)
abbrev pub short_key : List ℕ → List ℕ
short_key key = if nat_lt 64 (length key) then md5 key else key

-- the short key filled with zeros to a block of 64 octets (RFC 2104 2)
abbrev pub key_block : List ℕ → List ℕ
key_block key = short_key key ++ replicate (64 - length (short_key key)) 0

-- a block with each octet exclusive-or a pad (RFC 2104 2)
abbrev pub padded : ℕ → List ℕ → List ℕ
padded pad block = map (λ octet. bit_xor octet pad) block

-- HMAC-MD5 of a message under a key, with the inner pad 0x36 and the outer pad 0x5c (RFC 2104 2)
unfoldable pub hmac : List ℕ → List ℕ → List ℕ
hmac key message =
    let inner = md5 (padded 0x36 (key_block key) ++ message) in
    md5 (padded 0x5c (key_block key) ++ inner)
