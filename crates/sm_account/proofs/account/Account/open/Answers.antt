use Rattle.std.proofs.Common.{ap, subst, arith}
use Rattle.sm_account.specs.Openings.{IsAccountStateOver}
use Rattle.sm_account.proofs.FreshLemmas.{fresh_allowed}
use Rattle.sm_account.proofs.OpenLemmas.{opened_over, taken_over}
use Rattle.sm_account.proofs.account.Account.open.Goals as goal

pub open-requires : goal.open-requires
open-requires g c = c.requires

pub account_state_over-requires : goal.account_state_over-requires
account_state_over-requires g c =
    let ok = c.in-Ok.ensures in
    record {
      store = ok.opened.takes.store;
      second = ok.opened.takes.second;
      lawful = ok.lawful;
      replayed = ok.made;
      limits = c.requires;
      later = omega (arith, ok.no_other, ap g.D.Disk.faults c.of-began.ensures);
    }

pub over-requires : goal.over-requires
over-requires g c = record {
  kept = c.account_state_over.ensures.kept;
  allowed = ∣ fresh_allowed g.R.Rotator.replies c.in-Ok.opened _ c.args.limit c.account_state_over.result
      c.account_state_over.ensures ∣₁;
}

pub returns-in-Ok : goal.returns-in-Ok
returns-in-Ok g c =
    let ok = c.in-Ok.ensures in
    let are = subst (λ d. IsAccountStateOver g.D.Disk c.in-Ok.opened d c.args.limit c.account_state_over.result)
    c.of-began.ensures
    c.account_state_over.ensures in
    record {
      opened = opened_over c.in-Ok.opened c.args.disk c.args.limit c.args.doors c.account_state_over.result
          c.over.result c.over.ensures.inner are c.over.ensures.doors c.over.ensures.at_opening;
      taken = taken_over c.in-Ok.opened c.args.disk c.args.limit c.args.doors c.account_state_over.result c.over.result
          c.over.ensures.inner are ok.opened ok.any_moment ok.no_other;
      refused = tt;
    }
