-- The law of counts of faults: a rise stays one, however much the count grows before it and after it.
use Rattle.std.proofs.Common.{ℕ, ◌-◌, ◌^◌, ◌≤◌, arith}
use Rattle.sm_base.specs.Faults.{Rose}

-- a rise within a longer time
pub rose_within : (first before now last : ℕ) → first ≤ before → Rose before now → now ≤ last → Rose first last
rose_within first before now last earlier rose later = omega (arith, earlier, rose, later)

-- a count that rose did not fall
pub rose_grows : (before now : ℕ) → before ≤ 2 ^ 64 - 1 → Rose before now → before ≤ now
rose_grows before now within rose = omega (arith, within, rose)
