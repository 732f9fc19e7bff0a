-- Message authentication by a key, HMAC, with SHA-256: RFC 2104.
use Rattle.std.specs.Prelude.{ℕ, ◌-◌, nat_le, if◌then◌else◌, List, ◌++◌, length, map, replicate, bit_xor}
use Rattle.sha2.specs.Sha256.{sha256}
use Rattle.sha2.specs.Hashers.{Holds256}
use Rattle.sm_sigv4.specs.declared.mac.Mac.{Mac}

-- a block of 64 bytes that begins with these, of which there are no more, and has zeros behind them
abbrev pub padded : List ℕ → List ℕ
padded bytes = bytes ++ replicate (64 - length bytes) 0

-- the key as a block: the digest of one that is longer stands for it
abbrev pub key_block : List ℕ → List ℕ
key_block key = if nat_le (length key) 64 then padded key else padded (sha256 key)

-- each byte of a key's block, with a byte added to it bit by bit
abbrev pub masked : ℕ → List ℕ → List ℕ
masked byte block = map (λ b. bit_xor b byte) block

unfoldable pub hmac : List ℕ → List ℕ → List ℕ
hmac key text = sha256 (masked 0x5c (key_block key) ++ sha256 (masked 0x36 (key_block key) ++ text))

-- what was begun with the key, and holds this text
abbrev pub IsMac : Mac → List ℕ → List ℕ → Type 0
IsMac mac key text = Holds256 mac.inner (masked 0x36 (key_block key) ++ text)
    × Holds256 mac.outer (masked 0x5c (key_block key))
