use Rattle.sm_record.specs.declared.edition.Edition.TheVariants as editions
use Rattle.sm_record.proofs.SnapshotLaws.{secret_fits}
use Rattle.sm_store.proofs.FillRuns.{went_on}
use Rattle.sm_store.proofs.filling.put_secret.Goals as goal

pub put_row-requires-clause-spelled : goal.put_row-requires-clause-spelled
put_row-requires-clause-spelled g c = (secret_fits editions.Second c.args.row.now c.requires.spelled).0

pub put_versions-requires-clause-spelled : goal.put_versions-requires-clause-spelled
put_versions-requires-clause-spelled g c = (secret_fits editions.Second c.args.row.now c.requires.spelled).1

pub returns-in_err-put_versions-clause-goes_on : goal.returns-in_err-put_versions-clause-goes_on
returns-in_err-put_versions-clause-goes_on g c =
    went_on c.args.fresh.now c.put_row.new.fresh c.put_versions.new.fresh c.put_row.ensures.goes_on
    c.put_versions.ensures.goes_on

pub returns-clause-goes_on : goal.returns-clause-goes_on
returns-clause-goes_on g c =
    went_on c.args.fresh.now c.put_row.new.fresh c.put_versions.new.fresh c.put_row.ensures.goes_on
    c.put_versions.ensures.goes_on
