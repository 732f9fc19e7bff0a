-- How an account is opened.
use Rattle.std.specs.Prelude.{◌≡◌, ◌≤◌, ℕ, [], None}
use Rattle.sm_disk.specs.declared.disk.Disk.{Ghosts}
use Rattle.sm_journal.specs.declared.format.Format.{Format}
use Rattle.sm_recovery.specs.Keeping.{StateStays}
use Rattle.sm_recovery.specs.Openings.{IsFound}
use Rattle.sm_recovery.specs.Replacing.{taken_of}
use Rattle.sm_recovery.specs.declared.opened.Opened.{Opened}
use Rattle.sm_rotator.specs.declared.rotator.Rotator.{Ghosts as RotatorGhosts}
use Rattle.sm_store.specs.Held.{Held}
use Rattle.sm_account.specs.declared.account.Account.{Account}
use Rattle.sm_account.specs.declared.account_state.AccountState.{AccountState}
use Rattle.sm_account.specs.Accounts as accounts
use Rattle.sm_account.specs.AccountState.{Kept, history_in}
use Rattle.sm_account.specs.States.{base_of}

-- An account that was opened over a disk: its history is empty, its base is what the base and the entries make that
-- were taken from the disk, and no write is unsure.
pub record IsOpenedOver {D R : Type 0} {G : Ghosts D} {V : RotatorGhosts R} (disk : D) (doors limit : ℕ)
    (account : Account D R G V) : Type 0 where
  pub history_is : accounts.history account ≡ []
  pub base_is : accounts.base account ≡ base_of (accounts.taken account) limit
  pub began_is : accounts.began account ≡ disk
  pub sure : accounts.failed account ≡ None
  pub doors_are : accounts.doors account ≡ doors
  pub doors_at_opening_are : accounts.doors_at_opening account ≡ doors

-- What an opening of a disk took: what was found on it, or the state that this makes as a base; and a crash at any
-- moment of the opening leaves each image with the state that it had. The count of faults stays.
pub record TakenFrom {D : Type 0} (G : Ghosts D) (old : D) (limit : ℕ) (taken : Held) (now : D) : Type 0 where
  pub format : Format
  pub held : Held
  pub found : IsFound format held (G.sight old)
  pub takes : taken ≡ taken_of format limit held
  pub stays : StateStays (G.sight old) (G.sight now)
  pub later : G.faults old ≤ G.faults now
  pub no_other : G.faults now ≡ G.faults old

-- the account's state over a disk that was opened
pub record IsAccountStateOver {D : Type 0} (G : Ghosts D) (opened : Opened D G) (began : D) (limit : ℕ)
    (inner : AccountState D G) : Type 0 where
  pub kept : Kept G inner
  pub history_is : history_in inner ≡ []
  pub taken_is : inner.taken.value ≡ opened.taken
  pub limit_is : inner.limit ≡ limit
  pub began_is : inner.began.value ≡ began
  pub store_is : inner.store ≡ opened.store
  pub sure : inner.failed.value ≡ None
