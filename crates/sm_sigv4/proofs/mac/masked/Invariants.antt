use Rattle.std.proofs.Common.{◌≡◌, length, take}
use Rattle.sm_sigv4.specs.Hmac.{masked}
use Rattle.sm_sigv4.proofs.mac.masked.Given as goal

-- the bytes so far are masked
abbrev pub invariant-loop-at : goal.invariant-loop-at
invariant-loop-at l = (length l.bytes ≡ 64) × (take l.at l.bytes ≡ masked l.byte (take l.at l.block))
