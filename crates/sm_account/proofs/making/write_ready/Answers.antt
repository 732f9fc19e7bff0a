use Rattle.std.proofs.Common.{length, ap, arith}
use Rattle.sm_account.specs.AccountState.{all_held}
use Rattle.sm_account.proofs.making.write_ready.Goals as goal

pub write-requires-clause-format : goal.write-requires-clause-format
write-requires-clause-format g c = c.requires.kept.second

pub write-requires-clause-fits : goal.write-requires-clause-fits
write-requires-clause-fits g c =
    omega (arith, ap length c.requires.due.spells.1, c.requires.due.fits, c.requires.kept.under)

pub returns-clause-any_moment : goal.returns-clause-any_moment
returns-clause-any_moment g c =
    c.write.ensures.any_moment c.args.due.now.entry c.requires.due.spells (all_held c.args.inner.now)
    c.args.inner.now.failed.value c.requires.kept.holds
