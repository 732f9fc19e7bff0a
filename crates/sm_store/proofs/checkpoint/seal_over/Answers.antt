use Rattle.std.proofs.Common.{[], subst}
use Rattle.sm_journal.specs.Freshes as freshes
use Rattle.sm_journal.specs.Journals as journals
use Rattle.sm_journal.specs.Openings.{Equal}
use Rattle.sm_record.specs.Snapshots.{snapshot}
use Rattle.sm_record.specs.declared.edition.Edition.TheVariants as editions
use Rattle.sm_store.proofs.FillRuns.{run_then}
use Rattle.sm_store.proofs.checkpoint.seal_over.Goals as goal

pub returns-in-Ok-seal-clause-opened : goal.returns-in-Ok-seal-clause-opened
returns-in-Ok-seal-clause-opened g c =
    let bodies = snapshot editions.Second c.args.base.now in
    let sealed = c.in-Ok-seal.ensures.sealed bodies (c.in-Ok.ensures.filled.makes [] c.requires.makes) in
    subst (λ limit. journals.IsOpened (freshes.file_of c.args.fresh) limit bodies c.in-Ok-seal.journal)
    c.fill.ensures.goes_on.same.limit
    (subst (λ file. journals.IsOpened file (freshes.limit_of c.fill.new.fresh) bodies c.in-Ok-seal.journal)
    c.fill.ensures.goes_on.same.file sealed.0)

pub returns-in-Ok-seal-clause-run : goal.returns-in-Ok-seal-clause-run
returns-in-Ok-seal-clause-run g c =
    run_then (freshes.file_of c.args.fresh) (freshes.file_of c.fill.new.fresh) Equal Equal _ _ _
    c.fill.ensures.goes_on.same.file c.fill.ensures.goes_on.run c.in-Ok-seal.ensures.any_moment

pub returns-in-Err-clause-run_err : goal.returns-in-Err-clause-run_err
returns-in-Err-clause-run_err g c =
    run_then (freshes.file_of c.args.fresh) (freshes.file_of c.fill.new.fresh) Equal Equal _ _ _
    c.fill.ensures.goes_on.same.file c.fill.ensures.goes_on.run c.in-Err.ensures.any_moment_err
