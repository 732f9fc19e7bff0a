use Rattle.sm_account.specs.Accounts.{disk, state}
use Rattle.sm_account.specs.Handled.{marks_of}
use Rattle.sm_account.specs.Handling.{handled_by}
use Rattle.sm_account.specs.Outcome.{outcome}
use Rattle.sm_account.proofs.CallOutcomeLemmas.{unsure_by}
use Rattle.sm_account.proofs.HandledLaws.{fault_so}
use Rattle.sm_base.specs.Faults.{Rose}
use Rattle.sm_session.proofs.TurnLemmas.{answered_by}
use Rattle.sm_session.proofs.turns.turn.Goals as goal

pub returns-clause-turn : goal.returns-clause-turn
returns-clause-turn g c =
    let h = c.handle-handled in
    let rose = Rose (g.D.Disk.faults (disk c.args.account.now)) (g.D.Disk.faults (disk h.new.self)) in
    let wanted = outcome (state c.args.account.now) (record {
      person = c.args.person.now;
      now = c.args.now;
      drawn = c.args.drawn.now;
      request = c.args.request.now;
    }) in (
      marks_of h.result wanted,
      answered_by rose c.say_handled.result h.result wanted h.ensures.handled
          (fault_so h.result wanted rose h.ensures.handled h.ensures.leaves.fault) c.say_handled.ensures,
      h.ensures.history,
    )

pub returns-clause-unsure : goal.returns-clause-unsure
returns-clause-unsure g c =
    let h = c.handle-handled in
    let wanted = outcome (state c.args.account.now) (record {
      person = c.args.person.now;
      now = c.args.now;
      drawn = c.args.drawn.now;
      request = c.args.request.now;
    }) in
    unsure_by c.args.account.now.inner h.new.self.inner c.args.seat (handled_by h.result wanted) h.ensures.leaves

pub returns-clause-later : goal.returns-clause-later
returns-clause-later g c = c.handle-handled.ensures.leaves.later
