use Rattle.std.proofs.Common.{option_copied}
use Rattle.sm_table.proofs.FoundLaws.{found_are_rows}
use Rattle.sm_table.proofs.SoundLaws.{found_sound}
use Rattle.sm_table.proofs.table.Table.find.Goals as goal

pub returns-clause-kept : goal.returns-clause-kept
returns-clause-kept c =
    found_are_rows c.args.self.now c.args.moment c.args.id.now (option_copied c.find_named.result)
    c.find_named.ensures.found

pub returns-clause-sound : goal.returns-clause-sound
returns-clause-sound c =
    found_sound c.args.self.now c.args.moment c.args.id.now (option_copied c.find_named.result)
    c.find_named.ensures.found
