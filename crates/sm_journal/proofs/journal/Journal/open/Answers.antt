use Rattle.std.proofs.Common.{◌≡◌, length, ap, subst}
use Rattle.std.proofs.lemmas.Result.{IfOk-weaker, IfErr-weaker}
use Rattle.sm_journal.specs.Records.{Short}
use Rattle.sm_journal.proofs.OpeningRuns.{after_load, loaded_refused}
use Rattle.sm_journal.proofs.journal.Journal.open.Goals as goal

pub open_loaded-requires-clause-place : goal.open_loaded-requires-clause-place
open_loaded-requires-clause-place g c s reads =
    ap length (c.in-Ok.ensures.loaded s (c.load.ensures.reads.nothing_new s reads))

pub returns-in-Ok-clause-any_moment : goal.returns-in-Ok-clause-any_moment
returns-in-Ok-clause-any_moment g c =
    IfOk-weaker c.open_loaded.result _ _
    (λ opened run. after_load c.args.file _ _ _ c.load.ensures.run (run c.in-Ok.ensures.synced))
    c.open_loaded.ensures.run

pub returns-in-Ok-clause-whole : goal.returns-in-Ok-clause-whole
returns-in-Ok-clause-whole g c =
    IfOk-weaker c.open_loaded.result _ _
    (λ opened made s reads short. made (subst Short (c.in-Ok.ensures.loaded s reads) short))
    c.open_loaded.ensures.whole

pub returns-in-Ok-clause-refused : goal.returns-in-Ok-clause-refused
returns-in-Ok-clause-refused g c =
    IfErr-weaker c.open_loaded.result _ _
    (loaded_refused g.D.Disk c.args.file c.in-Ok.bytes.items c.args.disk c.load.new.disk c.load.ensures.run
    c.load.ensures.reads c.in-Ok.ensures.loaded c.in-Ok.ensures.synced c.in-Ok.ensures.no_other)
    c.open_loaded.ensures.refused
