use Rattle.std.proofs.Common.{◌⊎◌, ◌≤◌, IsSome}
use Rattle.sm_base.specs.Faults.{Rose}
use Rattle.sm_account.specs.Accounts.{history, base, disk, failed, SameOrigin}
use Rattle.sm_pool.proofs.RoundLemmas.{Progress}
use Rattle.sm_pool.proofs.rounds.turns.Given as goal

-- as many turns as the number says have made an entry each, from the account and the counts at the beginning to now
abbrev pub invariant-loop-number : goal.invariant-loop-number
invariant-loop-number g l = record {
  origin : SameOrigin l.initial.account l.account;
  unsure : IsSome (failed l.account) → IsSome (failed l.initial.account)
      ⊎ Rose (g.D.Disk.faults (disk l.initial.account)) (g.D.Disk.faults (disk l.account));
  disk_later : g.D.Disk.faults (disk l.initial.account) ≤ g.D.Disk.faults (disk l.account);
  rotator_later : g.R.Rotator.faults l.initial.rotator ≤ g.R.Rotator.faults l.rotator;
  words_later : g.W.Words.faults l.initial.words ≤ g.W.Words.faults l.words;
  progress : Progress g.R.Rotator.replies (base l.initial.account) l.seat
      (record {
        history = history l.initial.account;
        counts = record {
          disk = g.D.Disk.faults (disk l.initial.account);
          words = g.W.Words.faults l.initial.words;
          rotator = g.R.Rotator.faults l.initial.rotator;
        };
      })
      (record {
        clock = g.C.Clock.readings l.initial.clock;
        words = g.W.Words.drawn l.initial.words;
        rotator = g.R.Rotator.told l.initial.rotator;
      })
      l.number
      (record {
        history = history l.account;
        counts = record {
          disk = g.D.Disk.faults (disk l.account);
          words = g.W.Words.faults l.words;
          rotator = g.R.Rotator.faults l.rotator;
        };
      })
      (record {
        clock = g.C.Clock.readings l.clock;
        words = g.W.Words.drawn l.words;
        rotator = g.R.Rotator.told l.rotator;
      });
}
