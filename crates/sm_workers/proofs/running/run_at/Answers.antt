use Rattle.std.proofs.Common.{ap, sym, subst, ◌∙◌}
use Rattle.sm_account.specs.Accounts.{base, history, began, doors_at_opening, taken}
use Rattle.sm_account.specs.States.{base_of}
use Rattle.sm_lock.specs.Handles.{built_with}
use Rattle.sm_workers.specs.Closed.{Closed}
use Rattle.sm_workers.specs.Views.{views_by}
use Rattle.sm_workers.proofs.RunLemmas.{all_in, closed_over}
use Rattle.sm_workers.proofs.running.run_at.Goals as goal

pub close-requires-clause-gate : goal.close-requires-clause-gate
close-requires-clause-gate g c =
    let ran = c.run_workers-passes in
    all_in (views_by g.E.Edge g.E.C.Source g.E.C.Sink g.C.Clock g.W.Words g.R.Rotator) c.args.people.now
    (base (built_with c.in-Ok.gate)) c.in-Ok.gate c.in-Ok.passes ran.result c.args.workers.now ran.new.workers
    ran.ensures.many.0 ran.ensures.worked

pub returns-in-Ok-clause-ran : goal.returns-in-Ok-clause-ran
returns-in-Ok-clause-ran g c =
    let built = c.in-Ok.ensures in
    let gate = c.in-Ok.gate in
    let ran = c.run_workers-passes in
    let old = c.args.workers.now in
    let last = c.close.result in
    let views = views_by g.E.Edge g.E.C.Source g.E.C.Sink g.C.Clock g.W.Words g.R.Rotator in
    let origin = c.close.ensures.origin in
    record {
      closed = subst (λ a. Closed views c.args.people.now (base a) (history a) (history last) old ran.new.workers)
          built.gate.0
          (closed_over views c.args.people.now (base (built_with gate)) (history (built_with gate)) (history last) gate
          c.in-Ok.passes ran.result old ran.new.workers built.count ran.ensures.many.0 built.numbers
          (λ k pass lt. (built.seen k pass lt).1 ∙ ap (λ a. history a) (sym built.gate.0)) ran.ensures.worked
          c.close.ensures.seen c.close.ensures.built c.close.ensures.numbers);
      taken_stays = ap (λ o. o.taken) origin ∙ ap (λ a. taken a) built.gate.0;
      began_stays = ap (λ o. o.began) origin ∙ ap (λ a. began a) built.gate.0;
      base_stays = ap (λ o. base_of o.taken o.limit) origin ∙ ap (λ a. base a) built.gate.0;
      doors_stay = ap (λ o. o.doors) origin ∙ ap (λ a. doors_at_opening a) built.gate.0;
      left = ran.ensures.left;
    }
