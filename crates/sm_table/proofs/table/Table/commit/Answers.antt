use Rattle.std.proofs.Common.{sym, subst}
use Rattle.sm_table.specs.Kept.{RowsKept, NamesKept}
use Rattle.sm_table.proofs.KeptLaws.{commit_keeps}
use Rattle.sm_table.proofs.NameLaws.{commit_names}
use Rattle.sm_table.specs.Sound.{Sound}
use Rattle.sm_table.proofs.SoundLaws.{commit_sound}
use Rattle.sm_table.proofs.table.Table.commit.Goals as goal

pub returns-clause-kept : goal.returns-clause-kept
returns-clause-kept c =
    λ kept new. subst RowsKept (sym c.make.ensures.rows)
    (commit_keeps c.args.self.now c.args.moment c.args.prepared.change c.make.ensures.can kept new)

pub returns-clause-named : goal.returns-clause-named
returns-clause-named c =
    λ kept names. subst NamesKept (sym c.make.ensures.rows)
    (commit_names c.args.self.now c.args.moment c.args.prepared.change c.make.ensures.can c.requires.stands kept.serials
    names)

pub returns-clause-sound : goal.returns-clause-sound
returns-clause-sound c =
    λ sound new. subst Sound (sym c.make.ensures.rows)
    (commit_sound c.args.self.now c.args.moment c.args.prepared.change c.make.ensures.can c.requires.stands sound
    new)
