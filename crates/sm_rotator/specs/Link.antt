-- What is told of a rotator behind an address: how often it failed.
use Rattle.std.specs.Prelude.{ℕ}
use Rattle.sm_rotator.specs.declared.link.LinkRotator.{LinkRotator}

-- the count of faults
abbrev pub link_faults : {R : Type 0} → LinkRotator R → ℕ
link_faults rotator = rotator.faults
