use Rattle.sm_replication.proofs.ExtentLemmas.{stays_reached}
use Rattle.sm_replication.proofs.FrameLaws.{reaches_its_bytes, spells_one_frame, stays_bad}
use Rattle.sm_replication.proofs.laws.frames_of_bytes.Goals as goal

pub returns-clause-reaches : goal.returns-clause-reaches
returns-clause-reaches c = reaches_its_bytes

pub returns-clause-stays : goal.returns-clause-stays
returns-clause-stays c = stays_reached

pub returns-clause-one : goal.returns-clause-one
returns-clause-one c = spells_one_frame

pub returns-clause-bad : goal.returns-clause-bad
returns-clause-bad c = stays_bad
