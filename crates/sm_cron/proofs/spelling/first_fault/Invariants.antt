use Rattle.std.proofs.Common.{◌-◌}
use Rattle.sm_cron.proofs.SpellingLemmas.{IsBound}
use Rattle.sm_cron.proofs.spelling.first_fault.Given as goal

abbrev pub invariant-loop-good : goal.invariant-loop-good
invariant-loop-good l = IsBound l.text l.good l.bad

abbrev pub decreases-loop-good : goal.decreases-loop-good
decreases-loop-good l = l.bad - l.good
