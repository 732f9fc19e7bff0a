use Rattle.std.proofs.Common.{option_copied}
use Rattle.sm_table.proofs.FoundLaws.{found_arn_are_rows, found_arn_is_exact}
use Rattle.sm_table.proofs.SoundLaws.{found_arn_sound}
use Rattle.sm_table.proofs.table.Table.find_arn.Goals as goal

pub returns-clause-exact : goal.returns-clause-exact
returns-clause-exact c =
    found_arn_is_exact c.args.self.now c.args.moment c.args.arn.now (option_copied c.find_with_arn.result)
    c.find_with_arn.ensures.found

pub returns-clause-kept : goal.returns-clause-kept
returns-clause-kept c =
    found_arn_are_rows c.args.self.now c.args.moment c.args.arn.now (option_copied c.find_with_arn.result)
    c.find_with_arn.ensures.found

pub returns-clause-sound : goal.returns-clause-sound
returns-clause-sound c =
    found_arn_sound c.args.self.now c.args.moment c.args.arn.now (option_copied c.find_with_arn.result)
    c.find_with_arn.ensures.found
