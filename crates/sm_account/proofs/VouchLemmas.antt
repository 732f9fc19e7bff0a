-- The secrets of an account stay vouched.
use Rattle.std.proofs.Common.{List, Option, Some, None, IfSome, sym, ap, subst}
use Rattle.std.proofs.Math.Logic.{∥∥₁_map₂}
use Rattle.sm_disk.specs.declared.disk.Disk.{Ghosts}
use Rattle.sm_model.specs.declared.entry.Entry.{Entry}
use Rattle.sm_rotation.specs.Vouched.{Replies}
use Rattle.sm_core.specs.Effects.{when_of, effect}
use Rattle.sm_core.specs.Histories.{LegalEntry}
use Rattle.sm_core.specs.Vouching.{EachAllowed, Vouched}
use Rattle.sm_core.proofs.VouchedLemmas.{act_vouched, legal_vouched}
use Rattle.sm_recovery.specs.Lawful.{IsLawful, MayFollowIf, base_under, made_of}
use Rattle.sm_record.specs.declared.base.Base.{Base}
use Rattle.sm_recovery.proofs.FollowLemmas.{come_front}
use Rattle.sm_recovery.proofs.SoundLaws.{come_sound}
use Rattle.sm_base_check.specs.Bases.{IsSound}
use Rattle.sm_account.specs.declared.account_state.AccountState.{AccountState}
use Rattle.sm_account.specs.Allowed.{EntriesAllowed, IsAllowedAt, StayVouched}
use Rattle.sm_account.specs.AccountState.{Kept, all_held, base_in, history_in}
use Rattle.sm_account.specs.History.{entries_in}
use Rattle.sm_account.specs.Prefixes.{PrefixesStand}
use Rattle.sm_account.specs.States.{State}
use Rattle.sm_account.proofs.HeldLemmas.{legal_behind, timely_back, timely_front}
use Rattle.sm_account.proofs.KeptLemmas.{rows_of_all}

-- what was said of all holds up to any place
pub prefixes_stand : PrefixesStand
prefixes_stand base before more sound come timely =
    let front = come_front base before more come in
    (front, come_sound base before sound front (timely_front before more timely))

module _ {D : Type 0} {G : Ghosts D} (replies : Replies) (inner : AccountState D G) (kept : Kept G inner) where
  abbrev under : Base
  under = base_under inner.taken.value.base

  abbrev taken : List Entry
  taken = inner.taken.value.entries

  abbrev made : List Entry
  made = entries_in (history_in inner)

  module _ (lawful : IsLawful (all_held inner)) where
    base_sound : IsSound (made_of inner.taken.value)
    base_sound =
        come_sound under taken lawful.sound (come_front under taken made lawful.come)
        (timely_front taken made lawful.timely)

    rows_vouched : EachAllowed replies (base_in inner).rows made → Vouched replies (base_in inner).rows
        → Vouched replies inner.table
    rows_vouched allowed vouched =
        subst (Vouched replies) (sym (ap (λ (s : State). s.rows) kept.state))
        (legal_vouched replies (base_in inner).rows (base_in inner).last made base_sound.rows
        (legal_behind under taken made lawful.come.legal) (timely_back taken made lawful.timely) allowed vouched)

    next_vouched : (failed : Option Entry) → MayFollowIf (all_held inner) failed
        → IfSome failed (IsAllowedAt replies inner.table) → Vouched replies inner.table
        → IfSome failed (λ entry. Vouched replies (effect inner.table entry))
    next_vouched None follows allowed vouched = tt
    next_vouched (Some entry) follows allowed vouched =
        let legal : LegalEntry inner.table entry =
        subst (λ rows. LegalEntry rows entry) (sym (rows_of_all inner kept)) follows.legal.1 in
        act_vouched replies inner.table (when_of entry) entry.drawn entry.act kept.sound legal.1 allowed vouched

    stay_vouched : MayFollowIf (all_held inner) inner.failed.value → EntriesAllowed replies inner
        → StayVouched replies inner
    stay_vouched follows allowed = record {
      now = λ vouched. rows_vouched allowed.made vouched;
      next = λ vouched. next_vouched inner.failed.value follows allowed.next (rows_vouched allowed.made vouched);
    }

  pub kept_vouched : ∥ EntriesAllowed replies inner ∥₁ → ∥ StayVouched replies inner ∥₁
  kept_vouched allowed =
      let both : ∥ IsLawful (all_held inner) × MayFollowIf (all_held inner) inner.failed.value ∥₁ =
      ∥∥₁_map₂ kept.lawful kept.next (λ lawful follows. (lawful, follows)) in
      ∥∥₁_map₂ both allowed (λ b a. stay_vouched b.0 b.1 a)
