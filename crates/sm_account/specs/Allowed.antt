-- Entries of rotations that a rotator's answers allow.
-- AWS Secrets Manager User Guide: "Lambda rotation functions" (testSecret).
use Rattle.std.specs.Prelude.{⊤, IfSome}
use Rattle.sm_disk.specs.declared.disk.Disk.{Ghosts}
use Rattle.sm_model.specs.declared.entry.Entry.{Entry}
use Rattle.sm_model.specs.declared.rows.Rows.{Rows}
use Rattle.sm_rotation.specs.Vouched.{Replies}
use Rattle.sm_core.specs.Effects.{effect}
use Rattle.sm_core.specs.Vouching.{EachAllowed, IsAllowed, Vouched}
use Rattle.sm_account.specs.declared.account_state.AccountState.{AccountState}
use Rattle.sm_account.specs.AccountState.{base_in, history_in}
use Rattle.sm_account.specs.CallOutcomes.{CallOutcome, Nothing, Claimed, Made, Failed}
use Rattle.sm_account.specs.History.{entries_in}

-- the entry is allowed at the rows
abbrev pub IsAllowedAt : Replies → Rows → Entry → Type 0
IsAllowedAt replies rows entry = IsAllowed replies rows entry.moment entry.act

-- the entry that a call tried is allowed at the rows
abbrev pub CallOutcomeAllowed : Replies → Rows → CallOutcome → Type 0
CallOutcomeAllowed replies rows Nothing = ⊤
CallOutcomeAllowed replies rows (Claimed arn at moment) = ⊤
CallOutcomeAllowed replies rows (Made entry) = IsAllowedAt replies rows entry
CallOutcomeAllowed replies rows (Failed entry) = IsAllowedAt replies rows entry

-- Each entry that was made since the opening is allowed at the rows of those before it, and so is the one whose write
-- failed last: an answer that accepts a test is one that the rotator may give to it.
pub record EntriesAllowed {D : Type 0} {G : Ghosts D} (replies : Replies) (inner : AccountState D G) : Type 0 where
  pub made : EachAllowed replies (base_in inner).rows (entries_in (history_in inner))
  pub next : IfSome inner.failed.value (IsAllowedAt replies inner.table)

-- If each attempt that a recovered secret remembers is one at which its rotator may have accepted the test, this is so
-- of the secrets now, and it would be with the entry whose write failed last.
pub record StayVouched {D : Type 0} {G : Ghosts D} (replies : Replies) (inner : AccountState D G) : Type 0 where
  pub now : Vouched replies (base_in inner).rows → Vouched replies inner.table
  pub next : Vouched replies (base_in inner).rows
      → IfSome inner.failed.value (λ entry. Vouched replies (effect inner.table entry))
