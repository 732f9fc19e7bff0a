-- The calls of a form in memory that can be told to fail.
use Rattle.std.specs.Prelude.{◌+◌, ◌-◌, ◌^◌, Bool, if◌then◌else◌, nat_lt, is_some}
use Rattle.sm_base.specs.declared.fails.Fails.{Fails}
use Rattle.sm_base.specs.Fails.{is_told}
use Rattle.sm_io.specs.declared.calls.Calls.{Calls}
use Rattle.sm_base.specs.Faults.{raised}

-- no calls so far
abbrev pub no_calls : Fails → Calls
no_calls fails = record { fails = fails; made = 0; faults = 0 }

-- The next call is told to fail. The number of a call past 2 ^ 64 - 1 is in no list, and every `from` has come by then.
abbrev pub fails_next : Calls → Bool
fails_next calls =
    if nat_lt calls.made (2 ^ 64 - 1) then is_told calls.fails (calls.made + 1) else is_some calls.fails.from

-- the calls after one more that is no fault
abbrev pub after_call : Calls → Calls
after_call calls = record calls { made = raised calls.made }

-- the calls after one more that is a fault
abbrev pub after_fault : Calls → Calls
after_fault calls = record calls { made = raised calls.made; faults = raised calls.faults }
