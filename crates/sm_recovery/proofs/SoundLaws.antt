-- Entries that may follow a sound base leave a sound one.
use Rattle.std.proofs.Common.{◌≤◌, List, [], ◌∷◌, sym, subst}
use Rattle.sm_base.specs.declared.moment.Moment.{Moment}
use Rattle.sm_base.specs.declared.moment.TheConstants.{LAST_READING}
use Rattle.sm_model.specs.declared.entry.Entry.{Entry}
use Rattle.sm_table.specs.Sound.{Sound}
use Rattle.sm_core.specs.Histories.{last_moment, InTime}
use Rattle.sm_core.proofs.HistoryLemmas.{legal_keeps}
use Rattle.sm_recovery.specs.ReplayLaws.{KeepsSound, MakesAsReplayed}
use Rattle.sm_recovery.proofs.FollowLemmas.{after_rows, after_last, after_count}

last_in_time : (before : Moment) (entries : List Entry) → before.0 ≤ LAST_READING → InTime entries
    → (last_moment before entries).0 ≤ LAST_READING
last_in_time before [] last early = last
last_in_time before (e ∷ es) last early = last_in_time e.moment es early.0 early.1

pub come_sound : KeepsSound
come_sound base entries sound come early = record {
  rows = subst Sound (sym (after_rows base entries))
      (legal_keeps base.rows base.last entries sound.rows come.legal early);
  last = subst (λ (m : Moment). m.0 ≤ LAST_READING) (sym (after_last base entries))
      (last_in_time base.last entries sound.last early);
}

pub are_replayed : MakesAsReplayed
are_replayed base entries = record {
  rows = after_rows base entries;
  last = after_last base entries;
  counted = after_count base entries;
}
