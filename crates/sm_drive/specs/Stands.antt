-- Where a run of calls stands: what its account has, and what it has kept of the rotator's answers.
use Rattle.std.specs.Prelude.{ℕ, List, [], ◌∷◌, ◌++◌, Option, None, map}
use Rattle.sm_base.specs.declared.limits.TheConstants.{JOURNAL_LIMIT}
use Rattle.sm_base.specs.declared.moment.Moment.{Moment}
use Rattle.sm_disk.specs.declared.disk.Disk.{Ghosts as DiskGhosts}
use Rattle.sm_model.specs.declared.entry.Entry.{Entry}
use Rattle.sm_model.specs.declared.entry.Mark.{Mark}
use Rattle.sm_model.specs.declared.entry.Mark.TheVariants as marks
use Rattle.sm_rotator.specs.declared.rotator.Rotator.{Ghosts as RotatorGhosts}
use Rattle.sm_rotator.specs.declared.told.Told.{Told}
use Rattle.sm_rotator.specs.declared.verdict.Verdict.{Verdict}
use Rattle.sm_rotator.specs.declared.work.Work.{Work}
use Rattle.sm_store.specs.Held.{Held}
use Rattle.sm_account.specs.Accounts as accounts
use Rattle.sm_account.specs.AccountState.{with_entries}
use Rattle.sm_account.specs.History.{entries_in}
use Rattle.sm_account.specs.States.{Base, State, base_of, state_at}
use Rattle.sm_account.specs.declared.account.Account.{Account}

-- every call has this seat
abbrev pub seat : ℕ
seat = 1

-- What the last opening took, the history since, the entry whose write failed last while the tail is unsure, the works
-- that the rotator was asked to do, each with its answer, and the entries of the whole run.
pub record Stand : Type 0 where
  pub taken : Held
  pub history : List (ℕ × Mark)
  pub failed : Option Entry
  pub kept : List Told
  pub entries : List Entry

-- what was taken, and all entries since
abbrev pub all_at : Stand → Held
all_at stand = with_entries stand.taken (entries_in stand.history)

abbrev pub base_at : Stand → Base
base_at stand = base_of stand.taken JOURNAL_LIMIT

-- the state that the account's answers depend on
abbrev pub state_here : Stand → State
state_here stand = state_at (base_at stand) stand.history

-- ---- how a run goes on

-- an account that was opened over this
abbrev pub opened : Held → List Told → List Entry → Stand
opened taken kept entries =
    record { taken = taken; history = []; failed = None; kept = kept; entries = entries }

-- one mark more
abbrev pub marked : Stand → Mark → Stand
marked stand mark = record stand { history = stand.history ++ (seat, mark) ∷ [] }

-- an entry was made, and the tail is sure
abbrev pub entered : Stand → Entry → Stand
entered stand entry =
    record (marked stand (marks.Entry entry)) { failed = None; entries = stand.entries ++ entry ∷ [] }

-- the disk failed, and the tail is unsure
abbrev pub faulted : Stand → Option Entry → Stand
faulted stand failed = record (marked stand marks.Fault) { failed = failed }

-- the work's step is claimed
abbrev pub claimed : Stand → Work → Moment → Stand
claimed stand work moment = marked stand (marks.Claim work.arn work.at moment)

-- a work and the answer to it are kept
abbrev pub keeping : Stand → Told → Stand
keeping stand told = record stand { kept = stand.kept ++ told ∷ [] }

-- ---- where an account with verdicts stands

-- a verdict's work and answer
abbrev pub told_of : {R : Type 0} {V : RotatorGhosts R} → Verdict R V → Told
told_of verdict = record { work = verdict.work; answer = verdict.answer }

module _ {D R : Type 0} {G : DiskGhosts D} {V : RotatorGhosts R} where
  -- a run that made these entries, by its account and its verdicts
  abbrev pub stand_of : Account D R G V → List (Verdict R V) → List Entry → Stand
  stand_of account verdicts entries = record {
    taken = accounts.taken account;
    history = accounts.history account;
    failed = accounts.failed account;
    kept = map told_of verdicts;
    entries = entries;
  }
