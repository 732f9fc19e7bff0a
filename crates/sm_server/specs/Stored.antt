-- What stands on the disk after a run.
use Rattle.std.specs.Prelude.{◌≡◌, ℕ, List, ◌⊎◌, [], Option, Some, IfSome, IsSome}
use Rattle.sm_base.specs.Faults.{Rose}
use Rattle.sm_base.specs.declared.limits.TheConstants.{JOURNAL_LIMIT}
use Rattle.sm_disk.specs.declared.disk.Disk.{Ghosts}
use Rattle.sm_journal.specs.declared.answers.OpenRefused.{OpenRefused}
use Rattle.sm_journal.specs.declared.answers.OpenRefused.TheVariants as refusals
use Rattle.sm_model.specs.declared.entry.Entry.{Entry}
use Rattle.sm_store.specs.Held.{Held, with_entry}
use Rattle.sm_recovery.specs.Lawful.{made_of}
use Rattle.sm_recovery.specs.Openings.{IsRefused}
use Rattle.sm_account.specs.AccountState.{FaultsBound, with_entries}
use Rattle.sm_account.specs.Crashes.{HoldsOnDisk}
use Rattle.sm_account.specs.History.{entries_in}
use Rattle.sm_account.specs.Openings.{TakenFrom}
use Rattle.sm_server.specs.declared.status.Status.{Status}
use Rattle.sm_server.specs.declared.status.Status.TheVariants.{Words, Damaged, OpenFault, Memory, People}
use Rattle.sm_core.specs.Effects.{effect}
use Rattle.sm_core.specs.Vouching.{Vouched}
use Rattle.sm_rotation.specs.Vouched.{Replies}
use Rattle.sm_account.specs.SeatTraces.{History}
use Rattle.sm_server.specs.Outside.{Trace}
use Rattle.sm_server.specs.Ran.{NothingDone, Story}

-- what was taken from the disk, with the entries of the history
abbrev pub all_of : Story → Held
all_of story = with_entries story.taken (entries_in story.history)

-- Each image of the disk now recovers to what the story took and made, or, only where the disk's count rose since old,
-- to this and the entry whose write failed last. Both are lawful. The history has at most as many faults as the disk's
-- count rose by.
pub record Stands {D : Type 0} (G : Ghosts D) (story : Story) (old now : D) : Type 0 where
  pub on_disk : HoldsOnDisk (all_of story) story.failed (G.sight now)
  pub cause : IsSome story.failed → Rose (G.faults old) (G.faults now)
  pub faults : FaultsBound (G.faults old) story.history (G.faults now)

-- An opening took what the story goes on from, and left the disk so that each image kept its state; and the disk has
-- the story now.
pub record Records {D : Type 0} (G : Ghosts D) (story : Story) (old now : D) : Type 0 where
  pub opened : D
  pub recovered : TakenFrom G old JOURNAL_LIMIT story.taken opened
  pub stands : Stands G story old now

-- how a run ends where the opening was refused, and the disk that is handed back
abbrev pub status_unopened : {D : Type 0} → OpenRefused D → Status
status_unopened (refusals.Damaged disk damage) = Damaged damage.at damage.entry
status_unopened (refusals.Failed disk) = OpenFault
status_unopened (refusals.Memory disk) = Memory

abbrev pub disk_unopened : {D : Type 0} → OpenRefused D → D
disk_unopened (refusals.Damaged disk damage) = disk
disk_unopened (refusals.Failed disk) = disk
disk_unopened (refusals.Memory disk) = disk

-- What a run leaves of the disk: where the words or the people were not followed it is as it was, where the opening was
-- refused the account's own clause speaks of it, and else it has the story.
abbrev pub Leaves : {D : Type 0} → Ghosts D → Status → Story → D → D → Type 0
Leaves G Words story old new = new ≡ old
Leaves G (People line) story old new = new ≡ old
Leaves G (Damaged at entry) story old new =
    IsRefused G old (refusals.Damaged new (record { at = at; entry = entry }))
Leaves G OpenFault story old new = IsRefused G old (refusals.Failed new)
Leaves G Memory story old new = (new ≡ old) ⊎ (IsRefused G old (refusals.Memory new) ⊎ Records G story old new)
Leaves G status story old new = Records G story old new

-- A run that ran out of memory either opened no account: it read no byte and made no mark, nothing was written,
-- read from the clock or drawn, and the disk is as it was, or, once it had come this far, as such an opening leaves it;
-- or it had come this far, and the disk has its story.
abbrev pub WantsBy : {D : Type 0} → Ghosts D → Type 0 → Story → List ℕ → Trace → D → D → Type 0
WantsBy G Followed story input trace old new =
    ((input ≡ []) × NothingDone story.history trace
    × ((new ≡ old) ⊎ (Followed × IsRefused G old (refusals.Memory new))))
    ⊎ (Followed × Records G story old new)

-- If each attempt that a recovered secret remembers is one at which its rotator may have accepted the test, this is so
-- of the secrets after the history, and it would be with the entry whose write failed last.
pub record StaysVouched (replies : Replies) (taken : Held) (history : History) (failed : Option Entry) : Type 0 where
  pub now : Vouched replies (made_of taken).rows
      → Vouched replies (made_of (with_entries taken (entries_in history))).rows
  pub next : Vouched replies (made_of taken).rows → IfSome failed (λ entry.
      Vouched replies (effect (made_of (with_entries taken (entries_in history))).rows entry))

-- what a disk recovers to after a run, or while its last write is unsure
abbrev pub IsRecovered : Story → Held → Type 0
IsRecovered story h = (h ≡ all_of story)
    ⊎ ((entry : Entry) × (story.failed ≡ Some entry) × (h ≡ with_entry (all_of story) entry))

-- a run over what another left has vouched secrets at its beginning if the other had
abbrev pub VouchedAgain : Type 0
VouchedAgain =
    (replies : Replies) → (story : Story) → StaysVouched replies story.taken story.history story.failed
    → (h : Held) → IsRecovered story h → Vouched replies (made_of story.taken).rows
    → Vouched replies (made_of h).rows
