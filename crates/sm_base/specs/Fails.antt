-- Which calls of a memory form are told to fail.
use Rattle.std.specs.Prelude.{ℕ, Bool, false, ◌||◌, ◌==◌, nat_le, Option, Some, None}
use Rattle.std.specs.List.{list_any}
use Rattle.sm_base.specs.declared.fails.Fails.{Fails}

-- from is there, and the call is at least it
abbrev pub is_from : Option ℕ → ℕ → Bool
is_from None call = false
is_from (Some from) call = nat_le from call

-- The call with this number, counted from 1, is told to fail: it is listed, or from is there and it is at least that.
abbrev pub is_told : Fails → ℕ → Bool
is_told fails call = list_any (λ k. k == call) fails.calls || is_from fails.from call
