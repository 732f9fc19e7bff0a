use Rattle.std.proofs.Common.{◌≡◌, ◌⊎◌, ◌≤◌, ℕ, List, Option, IsSome, option_map}
use Rattle.sm_base.specs.Faults.{Rose}
use Rattle.sm_account.specs.Accounts.{base, disk, failed, history, SameOrigin}
use Rattle.sm_session.specs.Replies.{reply_of}
use Rattle.sm_server.specs.Outside.{outside_inside}
use Rattle.sm_server.proofs.DrillLemmas.{Made}
use Rattle.sm_server.proofs.drilling.answer_made.Given as goal

-- as many messages as the index says have been made and answered
abbrev pub invariant-loop-index : goal.invariant-loop-index
invariant-loop-index g l = record {
  origin : SameOrigin l.initial.account l.account;
  unsure : IsSome (failed l.account) → IsSome (failed l.initial.account)
      ⊎ Rose (g.D.Disk.faults (disk l.initial.account)) (g.D.Disk.faults (disk l.account));
  disk_later : g.D.Disk.faults (disk l.initial.account) ≤ g.D.Disk.faults (disk l.account);
  random_later : g.W.Words.faults l.initial.random ≤ g.W.Words.faults l.random;
  rotator_later : g.R.Rotator.faults l.initial.rotator ≤ g.R.Rotator.faults l.rotator;
  drill : l.drill ≡ record { number = l.number; at = l.index };
  few : l.refused ≤ l.index;
  made : (left taken : Option (List ℕ)) → (source sink : ℕ) → Made g.R.Rotator.replies l.people
      (base l.initial.account) l.number l.index
      (outside_inside left taken source sink g.C.Clock g.W.Words g.R.Rotator
      (g.D.Disk.faults (disk l.initial.account)) l.initial.clock l.initial.random l.initial.rotator)
      (outside_inside left taken source sink g.C.Clock g.W.Words g.R.Rotator (g.D.Disk.faults (disk l.account)) l.clock
      l.random l.rotator)
      (history l.account) l.refused (option_map reply_of l.last);
}
