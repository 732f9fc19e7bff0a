use Rattle.std.proofs.Common.{◌∙◌, refl, sym}
use Rattle.sm_account.specs.AccountState.{state_in}
use Rattle.sm_account.specs.Limits.{passed_at}
use Rattle.sm_account.proofs.CallOutcomeLemmas.{entry_failed, entry_made, nothing_done}
use Rattle.sm_account.proofs.EffortLemmas.{fault_so, made_so, over_so, within_limits}
use Rattle.sm_account.proofs.entering.enter_due.Goals as goal

pub make-requires-clause-due : goal.make-requires-clause-due
make-requires-clause-due g c =
    let due = c.requires.due in
    let room = within_limits (state_in c.args.inner.now) c.args.due.entry (sym c.passed_limit.ensures ∙ c.in-None.is) in
    record {
      spells = due.spells;
      short = due.short;
      counted = room.0;
      countable = room.1;
      fits = room.2;
      can = due.can;
      stands = due.stands;
      makes = due.makes;
      sound = due.sound;
      legal = due.legal;
      later = due.later;
      bound = due.bound;
    }

pub returns-in-Some : goal.returns-in-Some
returns-in-Some g c = record {
  kept = c.requires.kept;
  enters = over_so (passed_at (state_in c.args.inner.now) c.args.due.entry) c.in-Some.passed
      (sym c.passed_limit.ensures ∙ c.in-Some.is);
  leaves = nothing_done c.args.inner.now c.args.seat;
}

pub returns-in-Ok : goal.returns-in-Ok
returns-in-Ok g c = record {
  kept = c.make.ensures.kept;
  enters = made_so (passed_at (state_in c.args.inner.now) c.args.due.entry) (sym c.passed_limit.ensures ∙ c.in-None.is);
  leaves = entry_made c.args.inner.now c.make.new.inner c.args.seat c.args.due.entry c.make.ensures.origin
      c.make.ensures.any_moment c.make.ensures.cause.later c.in-Ok.ensures.history (c.in-Ok.ensures.sure refl)
      (c.in-Ok.ensures.cause.no_other refl);
}

pub returns-in-Err : goal.returns-in-Err
returns-in-Err g c = record {
  kept = c.make.ensures.kept;
  enters = fault_so (passed_at (state_in c.args.inner.now) c.args.due.entry)
      (sym c.passed_limit.ensures ∙ c.in-None.is);
  leaves = entry_failed c.args.inner.now c.make.new.inner c.args.seat c.args.due.entry c.make.ensures.origin
      c.make.ensures.any_moment c.make.ensures.cause.later c.in-Err.ensures.history c.in-Err.ensures.fault
      c.in-Err.ensures.torn (c.in-Err.ensures.cause.failed refl);
}
