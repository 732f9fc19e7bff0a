-- The state of an account that was just opened: its history has no entry, and no write has failed.
use Rattle.std.proofs.Common.{ℕ, Option, IfSome, sym, subst}
use Rattle.sm_disk.specs.declared.disk.Disk.{Ghosts}
use Rattle.sm_model.specs.declared.entry.Entry.{Entry}
use Rattle.sm_core.specs.Vouching.{EachAllowed}
use Rattle.sm_recovery.specs.declared.opened.Opened.{Opened}
use Rattle.sm_rotation.specs.Vouched.{Replies}
use Rattle.sm_account.specs.declared.account_state.AccountState.{AccountState}
use Rattle.sm_account.specs.Allowed.{EntriesAllowed, IsAllowedAt}
use Rattle.sm_account.specs.AccountState.{base_in}
use Rattle.sm_account.specs.History.{entries_in}
use Rattle.sm_account.specs.Openings.{IsAccountStateOver}

pub fresh_allowed : {D : Type 0} {G : Ghosts D} (replies : Replies) (opened : Opened D G) (began : D) (limit : ℕ)
    (inner : AccountState D G) → IsAccountStateOver G opened began limit inner → EntriesAllowed replies inner
fresh_allowed replies opened began limit inner are = record {
  made = subst (λ h. EachAllowed replies (base_in inner).rows (entries_in h)) (sym are.history_is) tt;
  next = subst (λ (f : Option Entry). IfSome f (IsAllowedAt replies inner.table)) (sym are.sure) tt;
}
