use Rattle.std.proofs.Common.{◌⊎◌, ◌≤◌, IsSome}
use Rattle.sm_base.specs.Faults.{Rose}
use Rattle.sm_account.specs.Accounts.{history, base, disk, failed, SameOrigin}
use Rattle.sm_server.specs.Outside.{outside_by}
use Rattle.sm_server.proofs.RunLemmas.{Progress}
use Rattle.sm_server.proofs.answering.answer_source.Given as goal

-- as many messages as the number says have been answered, from the counts and the account at the beginning to those now
abbrev pub invariant-loop-number : goal.invariant-loop-number
invariant-loop-number g l = record {
  origin : SameOrigin l.initial.account l.account;
  unsure : IsSome (failed l.account) → IsSome (failed l.initial.account)
      ⊎ Rose (g.D.Disk.faults (disk l.initial.account)) (g.D.Disk.faults (disk l.account));
  source_later : g.Q.Source.source_faults l.initial.source ≤ g.Q.Source.source_faults l.source;
  sink_later : g.K.Sink.sink_faults l.initial.sink ≤ g.K.Sink.sink_faults l.sink;
  disk_later : g.D.Disk.faults (disk l.initial.account) ≤ g.D.Disk.faults (disk l.account);
  random_later : g.W.Words.faults l.initial.random ≤ g.W.Words.faults l.random;
  rotator_later : g.R.Rotator.faults l.initial.rotator ≤ g.R.Rotator.faults l.rotator;
  progress : Progress g.R.Rotator.replies l.people (base l.initial.account)
      (outside_by g.Q.Source g.K.Sink g.C.Clock g.W.Words g.R.Rotator l.initial.source l.initial.sink
      (g.D.Disk.faults (disk l.initial.account)) l.initial.clock l.initial.random l.initial.rotator)
      l.number
      (record {
        now = outside_by g.Q.Source g.K.Sink g.C.Clock g.W.Words g.R.Rotator l.source l.sink
            (g.D.Disk.faults (disk l.account)) l.clock l.random l.rotator;
        reader = l.reader;
        history = history l.account;
        count = l.count;
      });
}
