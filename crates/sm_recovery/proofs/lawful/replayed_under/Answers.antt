use Rattle.std.proofs.Common.{subst, sym}
use Rattle.sm_base_check.specs.Bases.{IsSound}
use Rattle.sm_recovery.proofs.FollowLemmas.{nothing_sound}
use Rattle.sm_recovery.specs.Lawful.{base_under}
use Rattle.sm_recovery.proofs.lawful.replayed_under.Goals as goal

pub returns-in-None-clause-sound : goal.returns-in-None-clause-sound
returns-in-None-clause-sound c = subst (λ base. IsSound (base_under base)) (sym c.in-None.is) nothing_sound
