use Rattle.std.proofs.Common.{◌≤◌, inl, inr, refl, sym, subst}
use Rattle.sm_server.proofs.FollowLemmas.{same_around, later_refused}
use Rattle.sm_server.proofs.following.follow_with.Goals as goal

pub returns-in-Ok-clause-ran : goal.returns-in-Ok-clause-ran
returns-in-Ok-clause-ran g c drawn random rotator =
    inr (inr (record {
      people = c.args.people.now;
      read_is = refl;
      end = c.in-Ok.end;
      follows = c.in-Ok.ensures.followed;
      status_is = c.status_of_end.ensures;
      unasked = record { drawn = refl; random = refl; rotator = refl };
    }))

pub returns-in-Err-clause-ran : goal.returns-in-Err-clause-ran
returns-in-Err-clause-ran g c drawn random rotator =
    inr (inl (record {
      people = c.args.people.now;
      read_is = refl;
      refused = c.in-Err.refused;
      is_refused = c.in-Err.ensures.refused;
      status_is = c.end_unopened.ensures.status;
      disk = c.end_unopened.ensures.disk;
      untouched = record {
        around = same_around g.Q.Source g.K.Sink g.C.Clock _ _ _ _ _ _ c.in-Err.ensures.unread
            c.in-Err.ensures.unwritten c.in-Err.ensures.untold;
        unasked = record { drawn = refl; random = refl; rotator = refl };
      };
    }))

pub returns-in-Ok-clause-disk_later : goal.returns-in-Ok-clause-disk_later
returns-in-Ok-clause-disk_later g c = c.in-Ok.ensures.followed.later

pub returns-in-Err-clause-disk_later : goal.returns-in-Err-clause-disk_later
returns-in-Err-clause-disk_later g c =
    subst (λ d. g.D.Disk.faults c.args.disk ≤ g.D.Disk.faults d) (sym c.end_unopened.ensures.disk)
    (later_refused g.D.Disk c.args.disk c.in-Err.refused c.in-Err.ensures.refused)
