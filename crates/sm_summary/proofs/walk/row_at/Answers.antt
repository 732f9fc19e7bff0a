use Rattle.std.proofs.Common.{arith}
use Rattle.sm_summary.proofs.WalkLemmas.{sound_at}
use Rattle.sm_summary.proofs.walk.row_at.Goals as goal

pub returns-clause-sound : goal.returns-clause-sound
returns-clause-sound c =
    sound_at c.args.table.now.secrets c.args.place c.in-Some.row.now c.requires.sound.each (grind arith)
