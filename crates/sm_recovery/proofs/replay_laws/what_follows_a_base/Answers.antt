use Rattle.sm_recovery.proofs.SoundLaws.{come_sound, are_replayed}
use Rattle.sm_recovery.proofs.replay_laws.what_follows_a_base.Goals as goal

pub returns-clause-sound : goal.returns-clause-sound
returns-clause-sound c = come_sound

pub returns-clause-replayed : goal.returns-clause-replayed
returns-clause-replayed c = are_replayed
