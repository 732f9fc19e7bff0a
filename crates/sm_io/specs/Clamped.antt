-- What a clock reads of a time.
use Rattle.std.specs.Prelude.{ℕ, ◌/◌, min}
use Rattle.sm_base.specs.declared.moment.TheConstants.{LAST_READING}

-- the whole seconds of so many nanoseconds, and at most the greatest that a clock reads
abbrev pub clamped : ℕ → ℕ
clamped nanoseconds = min (nanoseconds / 1000000000) LAST_READING
