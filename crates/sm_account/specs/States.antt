-- What answers depend on: the state of an account at a history.
use Rattle.std.specs.Prelude.{ℕ, ◌+◌, List, [], ◌∷◌, length}
use Rattle.sm_base.specs.declared.moment.Moment.{Moment}
use Rattle.sm_model.specs.declared.entry.Entry.{Entry}
use Rattle.sm_model.specs.declared.entry.Mark.{Mark}
use Rattle.sm_model.specs.declared.rows.Rows.{Rows}
use Rattle.sm_core.specs.Effects.{effect}
use Rattle.sm_core.specs.Histories.{replay, last_moment}
use Rattle.sm_journal.specs.Records.{record_size, size}
use Rattle.sm_recovery.specs.Lawful.{made_of}
use Rattle.sm_record.specs.Spelling.{spelling}
use Rattle.sm_record.specs.declared.edition.Edition.TheVariants.{Second}
use Rattle.sm_store.specs.Held.{Held, bodies_in}
use Rattle.sm_account.specs.History.{entries_in}

-- how many bytes of a journal an entry takes
abbrev pub size_of : Entry → ℕ
size_of entry = record_size (spelling Second entry)

abbrev pub sizes_of : List Entry → ℕ
sizes_of [] = 0
sizes_of (entry ∷ entries) = size_of entry + sizes_of entries

-- What an account is opened over: the rows, the last moment, how many entries were made before, the length of the
-- journal, and the limit on that.
pub record Base : Type 0 where
  pub rows : Rows
  pub last : Moment
  pub entries : ℕ
  pub bytes : ℕ
  pub limit : ℕ

-- the base that this makes, which was taken from the disk: the journal has its bodies, and 9 bytes beside them
abbrev pub base_of : Held → ℕ → Base
base_of taken limit = record {
  rows = (made_of taken).rows;
  last = (made_of taken).last;
  entries = (made_of taken).entries;
  bytes = 9 + size (bodies_in Second taken);
  limit = limit;
}

-- the rows, the last entry's moment, how many entries were made before the opening and since, the length of the journal
-- and its limit
pub record State : Type 0 where
  pub rows : Rows
  pub last : Moment
  pub before : ℕ
  pub made : ℕ
  pub bytes : ℕ
  pub limit : ℕ

-- the state that entries make of a base
abbrev pub state_after : Base → List Entry → State
state_after base entries = record {
  rows = replay base.rows entries;
  last = last_moment base.last entries;
  before = base.entries;
  made = length entries;
  bytes = base.bytes + sizes_of entries;
  limit = base.limit;
}

-- the state at a history
abbrev pub state_at : Base → List (ℕ × Mark) → State
state_at base history = state_after base (entries_in history)

-- the state with one entry more
abbrev pub state_with : State → Entry → State
state_with state entry = record {
  rows = effect state.rows entry;
  last = entry.moment;
  before = state.before;
  made = state.made + 1;
  bytes = state.bytes + size_of entry;
  limit = state.limit;
}
