use Rattle.std.proofs.Common.{◌≡◌, false, sym, subst, arith}
use Rattle.std.proofs.lemmas.List.{take_all}
use Rattle.std.proofs.lemmas.List.Elements.{All-more}
use Rattle.sm_workers.specs.Workers.{NoneFailed}
use Rattle.sm_workers.proofs.running.any_failed.Goals as goal

pub returns-then-worker : goal.returns-then-worker
returns-then-worker g c =
    let worker = c.worker-item in
    (worker.result, (c.loop-worker.worker-index, c.loop-worker-test.true, sym worker.is), c.if-worker.true)

pub loop-worker-preserved : goal.loop-worker-preserved
loop-worker-preserved g c =
    let worker = c.worker-item in
    All-more (λ w. w.failed ≡ false) c.args.workers.now c.loop-worker.worker-index worker.result c.loop-worker-test.true
    c.loop-worker.invariant (subst (λ w. w.failed ≡ false) worker.is c.if-worker.false)

pub returns : goal.returns
returns g c =
    subst (λ l. NoneFailed l)
    (take_all c.loop-worker.worker-index c.args.workers.now (omega (arith, c.loop-worker-test.false)))
    c.loop-worker.invariant
