use Rattle.std.proofs.lemmas.Result.{IfOk-weaker, IfErr-weaker}
use Rattle.sm_disk.specs.OneFile.{Anyhow}
use Rattle.sm_journal.specs.Freshes as freshes
use Rattle.sm_store.proofs.FillRuns.{run_then}
use Rattle.sm_store.proofs.checkpoint.make_over.Goals as goal

pub returns-in-Ok-clause-run : goal.returns-in-Ok-clause-run
returns-in-Ok-clause-run g c =
    IfOk-weaker c.seal_over.result _ _
    (λ journal run. run_then c.args.file (freshes.file_of c.in-Ok.fresh) Anyhow Anyhow _ _ _
    c.in-Ok.ensures.begun.in_file c.in-Ok.ensures.any_moment run) c.seal_over.ensures.run

pub returns-in-Ok-clause-run_err : goal.returns-in-Ok-clause-run_err
returns-in-Ok-clause-run_err g c =
    IfErr-weaker c.seal_over.result _ _
    (λ refused run. run_then c.args.file (freshes.file_of c.in-Ok.fresh) Anyhow Anyhow _ _ _
    c.in-Ok.ensures.begun.in_file c.in-Ok.ensures.any_moment run) c.seal_over.ensures.run_err
