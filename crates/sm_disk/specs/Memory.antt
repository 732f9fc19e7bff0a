-- A disk in memory, by its fields.
use Rattle.std.specs.Prelude.{◌≡◌, ◌⊎◌, ℕ, ◌+◌, ◌-◌, ◌^◌, ◌==◌, Bool, true, false, IsTrue, min, if◌then◌else◌, List, [], ◌∷◌, ◌++◌, Result, is_ok, IsErr, OnOk, OnErr}
use Rattle.sm_base.specs.Fails.{is_told}
use Rattle.sm_base.specs.declared.fails.Fails.{Fails}
use Rattle.sm_disk.specs.Sight.{Image, Sight}
use Rattle.sm_disk.specs.Calls.{sight_of}
use Rattle.sm_disk.specs.declared.call.Act.{Act}
use Rattle.sm_disk.specs.declared.memory.MemoryDisk.{MemoryDisk}

-- what its files held when it was made
abbrev pub start_of : MemoryDisk → Image
start_of disk file = if file == 0 then disk.journal_0 else if file == 1 then disk.journal_1
    else if file == 2 then disk.root else []

-- what it tells
abbrev pub memory_sight : MemoryDisk → Sight
memory_sight disk = sight_of (start_of disk) disk.calls.items

-- a disk with these files that was never called
pub record IsMade (first second third : List ℕ) (told : Fails) (disk : MemoryDisk) : Type 0 where
  pub journal_0 : disk.journal_0 ≡ first
  pub journal_1 : disk.journal_1 ≡ second
  pub root : disk.root ≡ third
  pub fails : disk.fails ≡ told
  pub calls : disk.calls.items ≡ []
  pub made : disk.made ≡ 0
  pub faults : disk.faults ≡ 0

-- the number of the next call, counted from 1
abbrev pub next_call : MemoryDisk → ℕ
next_call disk = min (disk.made + 1) (2 ^ 64 - 1)

-- the next call is told to fail
abbrev pub is_told_now : MemoryDisk → Bool
is_told_now disk = is_told disk.fails (next_call disk)

-- a call was counted, and it failed where it was told to; each failure is a fault
pub record Counts {T E : Type 0} (old new : MemoryDisk) (result : Result T E) : Type 0 where
  pub told : IsTrue (is_told_now old) → IsErr result
  pub rest : new ≡ record old {
    calls = new.calls;
    made = next_call old;
    faults =
        if is_ok result then old.faults else min (old.faults + 1) (2 ^ 64 - 1);
  }

-- The call is kept as done where it is answered Ok. One that was told to fail is kept as failed, and one that found no
-- memory isn't kept.
pub record IsKept {T E : Type 0} (file : ℕ) (act : Act) (old new : MemoryDisk) (result : Result T E) : Type 0 where
  pub done : OnOk result (new.calls.items ≡ old.calls.items ++ record { file = file; done = true; act = act } ∷ [])
  pub failed : OnErr result ((new.calls.items ≡ old.calls.items ++ record { file = file; done = false; act = act } ∷ [])
      × IsTrue (is_told_now old) ⊎ (new.calls.items ≡ old.calls.items))
