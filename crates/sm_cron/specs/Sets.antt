-- Sets of numbers, each as a number whose bits say which numbers are in it.
use Rattle.std.specs.Prelude.{ℕ, zero, suc, ◌+◌, ◌-◌, ◌^◌, ◌%◌, Bool, ◌&&◌, ◌==◌, nat_le, if◌then◌else◌, List}
use Rattle.std.specs.Int.{bit_at}
use Rattle.std.specs.List.{list_any}
use Rattle.sm_cron.specs.declared.steps.Steps.{Steps}

-- the number is in the set
abbrev pub has : ℕ → ℕ → Bool
has set number = bit_at set number == 1

-- the set of the numbers below a bound that pass a test
unfoldable pub set_of : (ℕ → Bool) → ℕ → ℕ
set_of test zero = 0
set_of test (suc n) = if test n then set_of test n + 2 ^ n else set_of test n

-- the number is one of those from the first to the last in steps of so many
abbrev pub is_step : Steps → ℕ → Bool
is_step steps number =
    nat_le steps.first number && nat_le number steps.last && ((number - steps.first) % steps.by == 0)

-- the set of the numbers up to a greatest that are named by some of these
abbrev pub set_of_all : ℕ → List Steps → ℕ
set_of_all greatest all = set_of (λ number. list_any (λ steps. is_step steps number) all) (greatest + 1)
