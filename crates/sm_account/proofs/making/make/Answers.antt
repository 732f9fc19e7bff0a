use Rattle.std.proofs.Common.{◌≡◌, ◌≤◌, ◌++◌, [], ◌∷◌, ap, ◌∙◌, sym, subst, inl, inr}
use Rattle.std.proofs.lemmas.Bool.{false≢true}
use Rattle.sm_model.specs.declared.entry.Mark.TheVariants.{Entry, Fault}
use Rattle.sm_base.specs.Faults.{Rose}
use Rattle.sm_table.specs.Sound.{ChangeSound, Sound}
use Rattle.sm_table.specs.Sweep.{sweep}
use Rattle.sm_store.specs.Stores as stores
use Rattle.sm_account.specs.AccountState.{history_in, all_held, disk_in}
use Rattle.sm_account.specs.Crashes.{Throughout}
use Rattle.sm_account.proofs.MakeLemmas.{entered_origin, entered_kept, failed_stays, faulted_origin, faulted_state, unmended_kept, torn_kept, behind_commit, behind_entries, behind_fault, behind_tear, behind_history}
use Rattle.sm_account.proofs.making.make.Goals as goal

pub returns-in-Ok : goal.returns-in-Ok
returns-in-Ok g c =
    let old = c.args.inner.now in
    let mid = c.write_ready.new.inner in
    let new = c.commit_written.new.inner in
    let due = c.args.due in
    let rest = behind_commit old mid new c.write_ready.ensures.rest due.entry due.prepared.change
    c.commit_written.ensures.rest in
    let history : history_in new ≡ history_in old ++ (c.args.seat, Entry due.entry) ∷ [] =
    c.commit_written.ensures.history
    ∙ ap (λ h. h ++ (c.args.seat, Entry due.entry) ∷ []) (behind_history old mid new c.write_ready.ensures.rest) in
    let stored = ap (λ b. b.store) rest in
    let table = ap (λ b. b.table) c.write_ready.ensures.rest in
    let later = subst (λ s. g.D.Disk.faults (disk_in old) ≤ g.D.Disk.faults (stores.disk_of s)) (sym stored)
    c.write_ready.ensures.later in
    record {
      kept = entered_kept old new mid.store c.args.seat c.requires.kept c.write_ready.ensures.same due.entry due.ready
          due.prepared.change c.requires.due rest history c.commit_written.ensures.sure
          (c.commit_written.ensures.sound (subst Sound (sym table) c.requires.kept.sound)
          (subst (λ t. ChangeSound (sweep t due.entry.moment) due.prepared.change) (sym table) c.requires.due.sound))
          (behind_entries old mid new c.write_ready.ensures.rest due.entry c.commit_written.ensures.entries)
          c.in-Ok.ensures.answer c.write_ready.ensures.later;
      history = history;
      origin = entered_origin old new mid.store c.args.seat c.requires.kept c.write_ready.ensures.same due.entry
          due.ready
          due.prepared.change c.requires.due rest history;
      sure = λ _. c.commit_written.ensures.sure;
      fault = tt;
      torn = tt;
      any_moment =
          subst (λ s. Throughout g.D.Disk (all_held old) old.failed.value due.entry (disk_in old) (stores.disk_of s))
          (sym stored) c.write_ready.ensures.any_moment;
      cause = record {
        later = later;
        failed = λ is. absurd (cc);
        no_other = λ _. ap (λ s. g.D.Disk.faults (stores.disk_of s)) stored ∙ c.in-Ok.ensures.no_other;
      };
    }

pub returns-in-Unmended : goal.returns-in-Unmended
returns-in-Unmended g c =
    let old = c.args.inner.now in
    let mid = c.write_ready.new.inner in
    let new = c.fault.new.inner in
    let due = c.args.due in
    let still = failed_stays old new mid.store c.args.seat c.requires.kept c.write_ready.ensures.same
    (behind_fault old mid new c.write_ready.ensures.rest c.fault.ensures.rest) in
    let history : history_in new ≡ history_in old ++ (c.args.seat, Fault) ∷ [] = c.fault.ensures.history
    ∙ ap (λ h. h ++ (c.args.seat, Fault) ∷ []) (behind_history old mid new c.write_ready.ensures.rest) in
    let length = c.in-Unmended.ensures.answer.2 in
    let stored = ap (λ b. b.store) still.1 in
    record {
      kept = unmended_kept old new mid.store c.args.seat c.requires.kept c.write_ready.ensures.same still.1 history
          length
          due.entry still.0 c.in-Unmended.ensures.answer c.in-Unmended.ensures.failed;
      history = history;
      origin = faulted_origin old new mid.store c.args.seat c.requires.kept c.write_ready.ensures.same still.1 history
          length;
      sure = λ is. absurd (false≢true is);
      fault = faulted_state old new mid.store c.args.seat c.requires.kept c.write_ready.ensures.same still.1 history
          length;
      torn = inl (ap (λ f. f.value) still.0, sym c.requires.kept.sure ∙ c.in-Unmended.ensures.answer.0);
      any_moment =
          subst (λ s. Throughout g.D.Disk (all_held old) old.failed.value due.entry (disk_in old) (stores.disk_of s))
          (sym stored) c.write_ready.ensures.any_moment;
      cause = record {
        later = subst (λ s. g.D.Disk.faults (disk_in old) ≤ g.D.Disk.faults (stores.disk_of s)) (sym stored)
            c.write_ready.ensures.later;
        failed = λ is. subst (λ s. Rose (g.D.Disk.faults (disk_in old)) (g.D.Disk.faults (stores.disk_of s)))
            (sym stored) c.in-Unmended.ensures.failed;
        no_other = λ is. absurd (false≢true is);
      };
    }

pub returns-in-Torn : goal.returns-in-Torn
returns-in-Torn g c =
    let old = c.args.inner.now in
    let mid = c.write_ready.new.inner in
    let new = c.tear.new.inner in
    let due = c.args.due in
    let rest = behind_tear old mid new c.write_ready.ensures.rest c.tear.ensures.rest in
    let history : history_in new ≡ history_in old ++ (c.args.seat, Fault) ∷ [] = c.tear.ensures.history
    ∙ ap (λ h. h ++ (c.args.seat, Fault) ∷ []) (behind_history old mid new c.write_ready.ensures.rest) in
    let length = c.in-Torn.ensures.answer.1 in
    let stored = ap (λ b. b.store) rest in
    record {
      kept = torn_kept old new mid.store c.args.seat c.requires.kept c.write_ready.ensures.same rest history length
          due.entry due.ready due.prepared.change c.requires.due c.tear.ensures.torn c.in-Torn.ensures.answer
          c.in-Torn.ensures.failed;
      history = history;
      origin = faulted_origin old new mid.store c.args.seat c.requires.kept c.write_ready.ensures.same rest history
          length;
      sure = λ is. absurd (false≢true is);
      fault = faulted_state old new mid.store c.args.seat c.requires.kept c.write_ready.ensures.same rest history
          length;
      torn = inr c.tear.ensures.torn;
      any_moment =
          subst (λ s. Throughout g.D.Disk (all_held old) old.failed.value due.entry (disk_in old) (stores.disk_of s))
          (sym stored) c.write_ready.ensures.any_moment;
      cause = record {
        later = subst (λ s. g.D.Disk.faults (disk_in old) ≤ g.D.Disk.faults (stores.disk_of s)) (sym stored)
            c.write_ready.ensures.later;
        failed = λ is. subst (λ s. Rose (g.D.Disk.faults (disk_in old)) (g.D.Disk.faults (stores.disk_of s)))
            (sym stored) c.in-Torn.ensures.failed;
        no_other = λ is. absurd (false≢true is);
      };
    }
