use Rattle.std.proofs.Common.{arith, refl, subst, sym}
use Rattle.sm_base.specs.Drawn.{drawn_token}
use Rattle.sm_claims.specs.Due.{first_due}
use Rattle.sm_account.specs.AccountState.{state_in}
use Rattle.sm_account.specs.Handling.{MayEnter}
use Rattle.sm_account.specs.StartDue.{Starts}
use Rattle.sm_account.specs.declared.start_due.DueStart.{DueStart}
use Rattle.sm_account.proofs.CallOutcomeLemmas.{nothing_done}
use Rattle.sm_account.proofs.EffortLemmas.{none_due, start_is, started_so, starts_none, starts_so}
use Rattle.sm_account.proofs.MayLemmas.{start_may}
use Rattle.sm_account.proofs.MomentLemmas.{moment_is}
use Rattle.sm_account.proofs.start_due.start_due.Goals as goal

pub due_start-requires : goal.due_start-requires
due_start-requires g c = omega (arith, c.max.ensures, c.requires.kept.bound, c.requires.bound)

pub start_with-requires : goal.start_with-requires
start_with-requires g c =
    let old = c.args.inner.now in
    let drawn = c.args.drawn.now in
    let found = first_due old.table.secrets (record { 0 = c.max.result }) (drawn_token drawn) in
    let is = start_is (record { 0 = c.max.result }) drawn found c.in-Some.start
    (rw c.in-Some.is at c.in-Ok.ensures) in
    record {
      kept = c.requires.kept;
      may = subst (λ (s : DueStart). MayEnter old s.entry) (sym is.2)
          (start_may old c.requires.kept (record { 0 = c.max.result }) (omega (arith, c.max.ensures))
          (omega (arith, c.max.ensures, c.requires.kept.bound, c.requires.bound)) drawn is.0 c.told-drawn is.1);
      its = subst (λ (s : DueStart). Starts s.arn s.entry) (sym is.2) refl;
    }

pub returns-in-Some : goal.returns-in-Some
returns-in-Some g c =
    let old = c.args.inner.now in
    let new = c.start_with.new.inner in
    let drawn = c.args.drawn.now in
    let at = moment_is old.last c.args.now c.max.result c.max.ensures in
    let found = first_due old.table.secrets (record { 0 = c.max.result }) (drawn_token drawn) in
    let is = start_is (record { 0 = c.max.result }) drawn found c.in-Some.start
    (rw c.in-Some.is at c.in-Ok.ensures) in
    record {
      kept = c.start_with.ensures.kept;
      starts = starts_so old new c.args.seat c.args.now drawn (record { 0 = c.max.result }) at c.in-Some.start is.0
          is.1 is.2 c.start_with.result c.start_with.ensures.starts;
      leaves = started_so old new c.args.seat c.args.now drawn (record { 0 = c.max.result }) at c.in-Some.start is.0
          is.1 is.2 c.start_with.result c.start_with.ensures.leaves;
    }

pub returns-in-None : goal.returns-in-None
returns-in-None g c =
    let old = c.args.inner.now in
    let drawn = c.args.drawn.now in
    let at = moment_is old.last c.args.now c.max.result c.max.ensures in
    let found = first_due old.table.secrets (record { 0 = c.max.result }) (drawn_token drawn) in
    record {
      kept = c.requires.kept;
      starts = starts_none (state_in old) c.args.now drawn (record { 0 = c.max.result }) at
          (none_due (record { 0 = c.max.result }) drawn found (rw c.in-None.is at c.in-Ok.ensures));
      leaves = nothing_done old c.args.seat;
    }

pub returns-in-Err : goal.returns-in-Err
returns-in-Err g c = record {
  kept = c.requires.kept;
  starts = tt;
  leaves = nothing_done c.args.inner.now c.args.seat;
}
