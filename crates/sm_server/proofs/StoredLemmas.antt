-- What stands on the disk after a run.
use Rattle.std.proofs.Math.Logic.{∥∥₁_map}
use Rattle.std.proofs.Common.{◌≡◌, ◌⊎◌, ◌≤◌, ℕ, false, [], Option, Some, None, IfSome, IsSome, is_some, ap, sym, subst, ◌∙◌, inl, inr, arith}
use Rattle.sm_base.specs.Faults.{Rose}
use Rattle.sm_disk.specs.declared.disk.Disk.{Ghosts}
use Rattle.sm_model.specs.declared.entry.Entry.{Entry}
use Rattle.sm_server.specs.declared.status.Status.{Status}
use Rattle.sm_server.specs.declared.status.Status.TheVariants.{Done, Words, Damaged, OpenFault, Memory, People, SinkFault, SourceFault, EdgeFault, Cut, BadMessage, Enough}
use Rattle.sm_server.specs.Ran.{Story}
use Rattle.sm_server.specs.Status.{WasOpened}
use Rattle.sm_account.specs.Accounts.{base, failed, history, rows, taken}
use Rattle.sm_account.specs.Allowed.{StayVouched}
use Rattle.sm_account.specs.History.{entries_in}
use Rattle.sm_account.specs.declared.account.Account.{Account}
use Rattle.sm_account.proofs.HeldLemmas.{made_rows}
use Rattle.sm_account.specs.AccountState.{with_entries}
use Rattle.sm_recovery.specs.Lawful.{made_of}
use Rattle.sm_recovery.proofs.LawfulLaws.{makes_one_more}
use Rattle.sm_record.specs.declared.base.Base.{Base as Made}
use Rattle.sm_store.specs.Held.{Held}
use Rattle.sm_core.specs.Effects.{effect}
use Rattle.sm_core.specs.Histories.{replay}
use Rattle.sm_core.specs.Vouching.{Vouched}
use Rattle.sm_rotation.specs.Vouched.{Replies}
use Rattle.sm_rotator.specs.declared.rotator.Rotator.{Ghosts as RotatorGhosts}
use Rattle.sm_server.specs.Stored.{Records, Leaves, StaysVouched, VouchedAgain, all_of}

-- where the account was opened its story is recorded
pub leaves_opened : {D : Type 0} (G : Ghosts D) (status : Status) (story : Story) (old new : D) → WasOpened status
    → Records G story old new → Leaves G status story old new
leaves_opened G Done story old new opened r = r
leaves_opened G Words story old new opened r = absurd opened
leaves_opened G (Damaged at entry) story old new opened r = absurd opened
leaves_opened G OpenFault story old new opened r = absurd opened
leaves_opened G Memory story old new opened r = inr (inr r)
leaves_opened G (People line) story old new opened r = absurd opened
leaves_opened G (SinkFault counted) story old new opened r = r
leaves_opened G SourceFault story old new opened r = r
leaves_opened G EdgeFault story old new opened r = r
leaves_opened G (Cut bytes) story old new opened r = r
leaves_opened G (BadMessage place) story old new opened r = r
leaves_opened G Enough story old new opened r = r

-- a write is unsure only where the count rose since an earlier moment
pub cause_since : (before failed : Option Entry) (began opened now : ℕ) → before ≡ None
    → (IsSome failed → IsSome before ⊎ Rose opened now) → began ≤ opened → IsSome failed → Rose began now
cause_since before failed began opened now none unsure lower some =
    elim (unsure some) [
      | inl was ↦ absurd (let h : is_some before ≡ false = ap is_some none in cc)
      | inr rose ↦ omega (arith, rose, lower)
    ]

-- what always holds of an account says that its secrets stay vouched
module _ {D R : Type 0} {G : Ghosts D} {V : RotatorGhosts R} (replies : Replies) (account : Account D R G V)
    (rows_are : rows account ≡ replay (base account).rows (entries_in (history account))) where
  all_are : rows account ≡ (made_of (with_entries (taken account) (entries_in (history account)))).rows
  all_are = rows_are ∙ sym (made_rows (taken account) (entries_in (history account)))

  stays : StayVouched replies account.inner → StaysVouched replies (taken account) (history account) (failed account)
  stays vouched = record {
    now = λ first. subst (Vouched replies) all_are (vouched.now first);
    next = λ first. subst (λ r. IfSome (failed account) (λ entry. Vouched replies (effect r entry))) all_are
        (vouched.next first);
  }

  pub stays_vouched : ∥ StayVouched replies account.inner ∥₁
      → ∥ StaysVouched replies (taken account) (history account) (failed account) ∥₁
  stays_vouched vouched = ∥∥₁_map vouched stays

-- no base, and no entries
abbrev pub nothing_held : Held
nothing_held = record { base = None; entries = [] }

-- nothing was recovered, and nothing happened
pub none_vouched : (replies : Replies) → ∥ StaysVouched replies nothing_held [] None ∥₁
none_vouched replies = ∣ record { now = λ first. first; next = λ first. tt } ∣₁

pub vouched_again : VouchedAgain
vouched_again replies story stays entries (inl all) first = rw all (stays.now first)
vouched_again replies story stays entries (inr (entry, failed, more)) first =
    let last : IfSome (Some entry) (λ e. Vouched replies (effect (made_of (all_of story)).rows e)) =
    subst (λ f. IfSome f (λ e. Vouched replies (effect (made_of (all_of story)).rows e))) failed (stays.next first) in
    rw more (subst (λ (made : Made). Vouched replies made.rows) (sym (makes_one_more (all_of story) entry)) last)
