-- A table, and a change for which all memory is there.
use Rattle.std.specs.Prelude.{◌≡◌, ℕ, ◌+◌, [], ◌∷◌, ◌++◌, length, None, IsSome, IfSome, IsTrue}
use Rattle.sm_model.specs.declared.entry.Change.{Change}
use Rattle.sm_model.specs.declared.entry.Change.TheVariants.{Add, Replace, Drop, Nothing}
use Rattle.sm_model.specs.declared.rows.Rows.{Rows}
use Rattle.sm_versions.specs.Serials.{rises}
use Rattle.sm_table.specs.declared.indexed.Added.{Added}
use Rattle.sm_table.specs.declared.indexed.Indexed.{Indexed}
use Rattle.sm_table.specs.declared.indexed.Step.{Step}
use Rattle.sm_table.specs.declared.indexed.Step.TheVariants.{Add as Adds, Replace as Replaces, Drop as Drops, Nothing as Stays}
use Rattle.sm_table.specs.Changes.{CanMake, row_with}
use Rattle.sm_table.specs.Found.{row_named}
use Rattle.sm_table.specs.Kept.{row_serials, IsRising, NamesKept}
use Rattle.sm_table.specs.Indexed.{behind, room_left, HasRoom, IsIndexed, AreSpareMaps}

-- the index is that of the rows, serials rise and are below the next one, no name stands twice, each ARN is one of its
-- name, and there is the room that there has to be
pub record IsTable (next : ℕ) (indexed : Indexed) : Type 0 where
  pub kept : IsIndexed indexed
  pub serials : IsTrue (rises 0 (row_serials indexed.rows.list) next)
  pub names : NamesKept (record { next = next; secrets = indexed.rows.list })
  pub left : indexed.left ≡ room_left next
  pub room : HasRoom indexed (room_left next)

-- the change that a step makes
abbrev pub change_of : Step → Change
change_of (Adds added) = Add added.kept
change_of (Replaces kept) = Replace kept
change_of (Drops serial) = Drop serial
change_of Stays = Nothing

-- a row to be added behind so many others: the name is its own, and where no room is left there is some, for
-- all of them
pub record IsAdded (added : Added) (serial count : ℕ) : Type 0 where
  pub name : added.name.items ≡ added.kept.name
  pub needed : room_left serial ≡ 0 → IsSome added.room
  pub enough : IfSome added.room (λ room. AreSpareMaps room (count + 1 + behind serial))

-- the row may be added to these: its serial and its name are new, and the room is there
pub record CanAdd (indexed : Indexed) (added : Added) : Type 0 where
  pub kept : IsIndexed indexed
  pub new_serial : row_with indexed.rows.list added.kept.serial ≡ None
  pub new_name : row_named indexed.rows.list added.kept.name ≡ None
  pub rising : IsRising (indexed.rows.list ++ added.kept ∷ [])
  pub left : indexed.left ≡ room_left added.kept.serial
  pub room : HasRoom indexed (room_left added.kept.serial)
  pub brought : IsAdded added added.kept.serial (length indexed.rows.list)

-- what a step of these rows brings
abbrev pub HasBrought : Rows → Step → Type 0
HasBrought rows (Adds added) = IsAdded added rows.next (length rows.secrets)
HasBrought rows (Replaces kept) = Unit {0}
HasBrought rows (Drops serial) = Unit {0}
HasBrought rows Stays = Unit {0}

-- the change can be made of these rows, and what it needs is there
pub record IsReady (rows : Rows) (step : Step) : Type 0 where
  pub can : CanMake rows (change_of step)
  pub brought : HasBrought rows step
