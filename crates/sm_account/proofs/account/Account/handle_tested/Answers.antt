use Rattle.std.proofs.Common.{refl}
use Rattle.sm_account.specs.Outcome.{Question}
use Rattle.sm_account.proofs.AccountLemmas.{same_origin}
use Rattle.sm_account.proofs.AnswerLemmas.{allowed_told, handled_told, history_told, leaves_told}
use Rattle.sm_account.proofs.account.Account.handle_tested.Goals as goal

pub invariant_of-self : goal.invariant_of-self
invariant_of-self g c =
    let old = c.args.self.now in
    let q : Question = record {
      person = c.args.person.now;
      now = c.args.now;
      drawn = c.args.drawn.now;
      request = c.args.tested.request.now;
    } in
    record {
      kept = c.handle.ensures.kept;
      allowed = allowed_told old.inner c.handle.new.inner c.args.seat q c.handle.result old.kept
          c.handle.ensures.handles g.R.Rotator.replies old.allowed;
    }

pub returns : goal.returns
returns g c =
    let old = c.args.self.now in
    let new = c.handle.new.inner in
    let q : Question = record {
      person = c.args.person.now;
      now = c.args.now;
      drawn = c.args.drawn.now;
      request = c.args.tested.request.now;
    } in
    let h = c.handle.ensures.handles in
    record {
      handled = handled_told old.inner new c.args.seat q c.handle.result old.kept h;
      history = history_told old.inner new c.args.seat q c.handle.result old.kept h;
      leaves = leaves_told old.inner new c.args.seat q c.handle.result old.kept h;
      origin = same_origin old _ h.leaves.origin refl refl;
    }
