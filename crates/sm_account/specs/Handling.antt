-- How the account's state goes on when a request is handled.
use Rattle.std.specs.Prelude.{◌≡◌, ℕ, ◌≤◌, length, Some}
use Rattle.sm_base.specs.declared.moment.TheConstants.{LAST_READING}
use Rattle.sm_disk.specs.declared.disk.Disk.{Ghosts}
use Rattle.sm_journal.specs.Records.{body_limit}
use Rattle.sm_base.specs.declared.limits.TheConstants.{CALLER_LIMIT}
use Rattle.sm_model.specs.declared.entry.Entry.{Entry}
use Rattle.sm_model.specs.declared.person.Person.{Person}
use Rattle.sm_table.specs.Changes.{CanMake, StandsAt}
use Rattle.sm_table.specs.Sound.{ChangeSound}
use Rattle.sm_table.specs.Sweep.{sweep}
use Rattle.sm_core.specs.Effects.{Makes}
use Rattle.sm_core.specs.Histories.{LegalEntry}
use Rattle.sm_encoded_size.specs.Spellable.{IsSpellable}
use Rattle.sm_store.specs.Appends.{IsReady}
use Rattle.sm_account.specs.declared.account_state.AccountState.{AccountState}
use Rattle.sm_account.specs.declared.due.Due.{Due}
use Rattle.sm_account.specs.declared.handled.Handled.{Handled}
use Rattle.sm_account.specs.declared.handled.Handled.TheVariants.{Answered, DiskFault}
use Rattle.sm_account.specs.CallOutcomes.{CallOutcome, Nothing, Made, Failed, Leaves}
use Rattle.sm_account.specs.Handled.{HandledAs}
use Rattle.sm_account.specs.Outcome.{Outcome, Replies}

-- the key and the ARN of a person are not too long to stand with an entry
pub record HasShortTexts (person : Person) : Type 0 where
  pub key : length person.key ≤ CALLER_LIMIT
  pub arn : length person.arn ≤ CALLER_LIMIT

-- An entry that is legal at the account's rows and has a spelling that is not too long for a record.
pub record MayEnter {D : Type 0} {G : Ghosts D} (inner : AccountState D G) (entry : Entry) : Type 0 where
  pub legal : LegalEntry inner.table entry
  pub later : inner.last.0 ≤ entry.moment.0
  pub bound : entry.moment.0 ≤ LAST_READING
  pub act : IsSpellable entry

-- An entry is due at the account, limits aside, and all its memory is there.
pub record LimitsAside {D : Type 0} {G : Ghosts D} (inner : AccountState D G) (due : Due) : Type 0 where
  pub spells : IsReady due.entry due.ready
  pub short : length due.ready ≤ body_limit
  pub before : due.prepared.before ≡ inner.table
  pub can : CanMake inner.table due.prepared.change
  pub stands : StandsAt inner.table due.entry.moment due.prepared.change
  pub makes : Makes inner.table due.entry due.prepared.change
  pub sound : ChangeSound (sweep inner.table due.entry.moment) due.prepared.change
  pub legal : LegalEntry inner.table due.entry
  pub later : inner.last.0 ≤ due.entry.moment.0
  pub bound : due.entry.moment.0 ≤ LAST_READING

-- what an answer did with the entry of the outcome
abbrev pub handled_by : Handled → Outcome → CallOutcome
handled_by (Answered reply) (Replies wanted (Some entry)) = Made entry
handled_by DiskFault (Replies reply (Some entry)) = Failed entry
handled_by answer outcome = Nothing

-- The answer is the outcome's, and the account's state goes on by what it did.
pub record Handles {D : Type 0} (G : Ghosts D) (old new : AccountState D G) (seat : ℕ) (result : Handled)
    (wanted : Outcome) : Type 0 where
  pub answer : HandledAs result wanted
  pub leaves : Leaves G old new seat (handled_by result wanted)
