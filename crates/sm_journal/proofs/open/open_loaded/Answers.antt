use Rattle.std.proofs.Common.{◌≤◌, length, arith}
use Rattle.std.proofs.lemmas.Result.{IfOk-weaker, IfErr-weaker}
use Rattle.sm_journal.proofs.OpeningRuns.{short_run, new_refused}
use Rattle.sm_journal.proofs.open.open_loaded.Goals as goal

pub returns-then-len-le9-clause-run : goal.returns-then-len-le9-clause-run
returns-then-len-le9-clause-run g c =
    let short : length c.args.bytes.items ≤ 9 = omega (arith, c.if-len-le9.true, c.len.ensures) in
    IfOk-weaker c.open_new.result _ _ (λ opened run. short_run c.args.file c.args.bytes.items _ _ short run)
    c.open_new.ensures.run

pub returns-then-len-le9-clause-refused : goal.returns-then-len-le9-clause-refused
returns-then-len-le9-clause-refused g c =
    let short : length c.args.bytes.items ≤ 9 = omega (arith, c.if-len-le9.true, c.len.ensures) in
    IfErr-weaker c.open_new.result _ _ (new_refused g.D.Disk c.args.file c.args.bytes.items c.args.disk short)
    c.open_new.ensures.failed
