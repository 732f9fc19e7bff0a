-- What each message of a drill asks for.
use Rattle.std.specs.Prelude.{ℕ, ◌+◌, ◌-◌, ◌*◌, ◌%◌, nat_lt, if◌then◌else◌}
use Rattle.sm_drill.specs.declared.step.Step.{Step}
use Rattle.sm_drill.specs.declared.step.Step.TheVariants.{Create, Put, Get}

-- What message i asks for, from 0, by its word. The first 2,000 make a secret each. The next 6,000 give values: six
-- times to one of each two secrets, which the word's lowest bit chooses. The others ask for the value of any secret.
abbrev pub step_of : ℕ → ℕ → Step
step_of i word =
    if nat_lt i 2_000 then Create i
    else (if nat_lt i 8_000 then Put (2 * ((i - 2_000) % 1_000) + word % 2) else Get (word % 2_000))
