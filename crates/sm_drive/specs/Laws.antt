-- What every run keeps.
use Rattle.std.specs.Prelude.{◌≡◌, ℕ, List, ◌++◌, Some, slice_get}
use Rattle.sm_model.specs.declared.entry.Entry.{Entry}
use Rattle.sm_rotation.specs.Vouched.{Replies}
use Rattle.sm_drive.specs.Runs.{Runs}
use Rattle.sm_drive.specs.Stands.{Stand}
use Rattle.sm_drive.specs.declared.call.Call.{Call}
use Rattle.sm_drive.specs.declared.outcome.Outcome.{Outcome}
use Rattle.sm_drive.specs.declared.outcome.Outcome.TheVariants.{Entered}

-- no entry of a run is lost or changed by a later call: the entries of a run begin with those before it
abbrev pub EntriesStay : Type 0
EntriesStay = (replies : Replies) (calls : List Call) (outs : List Outcome) (first last : Stand)
    → Runs replies calls outs first last → (more : List Entry) × (last.entries ≡ first.entries ++ more)

-- a run and one that goes on from it are one run
abbrev pub RunsJoin : Type 0
RunsJoin = (replies : Replies) (calls others : List Call) (outs next : List Outcome) (first mid last : Stand)
    → Runs replies calls outs first mid → Runs replies others next mid last
    → Runs replies (calls ++ others) (outs ++ next) first last

-- an entry that is acknowledged has its place among the entries at the end of the run
abbrev pub EnteredIsThere : Type 0
EnteredIsThere = (replies : Replies) (calls : List Call) (outs : List Outcome) (first last : Stand) (i place : ℕ)
    → Runs replies calls outs first last → slice_get outs i ≡ Some (Entered place)
    → (entry : Entry) × (slice_get last.entries place ≡ Some entry)
